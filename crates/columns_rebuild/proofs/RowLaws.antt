-- A row is written field by field, each from its own column, and the rows of a table one after the other. What is written so far and what is
-- still to be written are together the whole.
use Prim.Native.Nat.{ℕ, zero, suc, ◌+◌, ◌≤◌, ◌<◌}
use mathlib.Core.Path.{◌≡◌, refl, sym, ap, ap₂, subst, ◌∙◌}
use mathlib.Core.Logic.{◌⊎◌, inl, inr}
use mathlib.Core.List.{List, [], ◌∷◌, ◌++◌, map, append_assoc, append-nil}
use native.Mathlib.Omega.{arith}
use native.Mathlib.Numerals.{add-one}
use lib.ListN.{length, get_or, set, drop, length-set}
use lib.Seq.{get_or-set_same, get_or-set_other}
use Rattle.local_format.specs.Out.{ok}
use Rattle.local_format.proofs.OutLaws.{ok_same, bind_ok}
use Rattle.byte_output.specs.Written.{Written}
use Rattle.byte_output.specs.Maps.{Writes}
use Rattle.byte_output.specs.declared.Output.{Output}
use Rattle.byte_output.proofs.WrittenLaws.{written_none, written_append, writes_none, writes_append}
use Rattle.derivation.proofs.Tests.{order}
use Rattle.groups.specs.Groups.{Read}
use Rattle.evr0_columns.specs.Form.{each, get_many}
use Rattle.evr0_columns.specs.Layout.{Item, raw, Of, Record, in_bytes, in_groups, field, fields}
use Rattle.column_fields.specs.Moved.{written}
use Rattle.column_fields.specs.Took.{left_of, FieldTook}
use Rattle.columns_rebuild.specs.Stand.{part, Column, Stand, RowTook}

-- ---- The fields of a record from the j-th on
abbrev put_from : (items : List Item) → ℕ → Record items → List ℕ
put_from items zero r = (fields in_bytes items).put r
put_from [] (suc j) r = []
put_from (i ∷ items) (suc j) r = put_from items j r.1

put_more : (items : List Item) (j : ℕ) (r : Record items) → j < length items
    → put_from items j r ≡ (field in_bytes (get_or items j (raw 0))).put (part items j r) ++ put_from items (suc j) r
unfolding fields
put_more [] j r h = absurd (omega arith)
put_more (i ∷ items) zero r h = refl
put_more (i ∷ items) (suc j) r h = put_more items j r.1 (omega arith)

put_none : (items : List Item) (j : ℕ) (r : Record items) → length items ≤ j → put_from items j r ≡ []
unfolding fields
put_none [] zero r h = refl
put_none [] (suc j) r h = refl
put_none (i ∷ items) zero r h = absurd (omega arith)
put_none (i ∷ items) (suc j) r h = put_none items j r.1 (omega arith)

-- ---- A field of the first record, and the column behind it
module _ {c : List ℕ} {items : List Item} {k : ℕ} {row : Record items} {rows : List (Record items)} {at : ℕ} (column : Column c items k (row ∷ rows) at)
  where
    abbrev item : Item
    item = get_or items k (raw 0)

    pub column_field : (g : Read (Of item)) × ((field in_groups item).get (length c) (drop at c) ≡ ok g) × (g.value ≡ part items k row)
        × (get_many (field in_groups item) (length rows) (length c) g.rest ≡ ok (record { value = map (part items k) rows; rest = column.rest }))
    unfolding get_many
    column_field =
        let (g, f, e1) = bind_ok ((field in_groups item).get (length c) (drop at c)) _ column.read in
        let (m, h, e2) = bind_ok (get_many (field in_groups item) (length rows) (length c) g.rest) _ e1 in
        let all = ok_same e2 in (
          g,
          f,
          heads (ap (λ (x : Read (List (Of item))). x.value) all),
          h ∙ same m (tails (ap (λ (x : Read (List (Of item))). x.value) all))
              (ap (λ (x : Read (List (Of item))). x.rest) all),
        )
      where
        heads : {x y : Of item} {xs ys : List (Of item)} → x ∷ xs ≡ y ∷ ys → x ≡ y
        heads e = cc

        tails : {x y : Of item} {xs ys : List (Of item)} → x ∷ xs ≡ y ∷ ys → xs ≡ ys
        tails e = cc

        same : (m : Read (List (Of item))) {v : List (Of item)} {r : List ℕ} → m.value ≡ v → m.rest ≡ r → ok m ≡ ok (record { value = v; rest = r })
        same m p q = ap₂ (λ (v : List (Of item)) (r : List ℕ). ok (record { value = v; rest = r })) p q

    module _ {before after : Output} {next : ℕ} (took : FieldTook item c at before after next) where
      pub field_puts : Writes before ((field in_bytes item).put (part items k row)) after
      field_puts =
          let (g, f, v, m) = column_field in
          rw (ap (written (field in_bytes item)) f ∙ ap (field in_bytes item).put v) at took.puts

      pub field_passed : Column c items k rows next
      field_passed =
          let (g, f, v, m) = column_field in
          let left : drop next c ≡ g.rest = took.left ∙ ap (left_of (drop at c)) f in
          record { rest = column.rest; read = rw left m }

-- ---- The first j fields of a row
pub record Rowing (c : List ℕ) (items : List Item) (row : Record items) (rows : List (Record items)) (before : Output) (j : ℕ)
    (cursors : List ℕ) (after : Output) : Type 0 where
  pub bytes : List ℕ
  pub whole : (fields in_bytes items).put row ≡ bytes ++ put_from items j row
  pub puts : Writes before bytes after
  pub reach : length items ≤ length cursors
  pub passed : (k : ℕ) → k < length items → k < j → Column c items k rows (get_or cursors k 0)
  pub here : (k : ℕ) → k < length items → j ≤ k → Column c items k (row ∷ rows) (get_or cursors k 0)

pub rowing_first : {c : List ℕ} {items : List Item} {row : Record items} {rows : List (Record items)} {cursors : List ℕ} (before : Output)
    → length before.bytes.now ≤ 18446744073709551615 → before.next ≤ 18446744073709551615 → Stand c items (row ∷ rows) cursors
    → Rowing c items row rows before 0 cursors before
rowing_first before h k s =
    record {
      bytes = [];
      whole = refl;
      puts = writes_none before h k;
      reach = s.reach;
      passed = λ k l m. absurd (omega arith);
      here = λ k l m. s.column k l;
    }

module _ {c : List ℕ} {items : List Item} {row : Record items} {rows : List (Record items)} {before : Output} {j : ℕ} {cursors : List ℕ} {after : Output}
    (w : Rowing c items row rows before j cursors after) where
  rowing_more : {next : ℕ} {put : Output} → j < length items → FieldTook (get_or items j (raw 0)) c (get_or cursors j 0) after put next
      → Rowing c items row rows before (j + 1) (set cursors j next) put
  rowing_more {next} h took =
      let column = w.here j h (omega arith) in
      let bytes : List ℕ = (field in_bytes (get_or items j (raw 0))).put (part items j row) in
      record {
        bytes = w.bytes ++ bytes;
        whole = w.whole ∙ rw (add-one j, put_more items j row h) (sym (append_assoc w.bytes bytes (put_from items (suc j) row)));
        puts = writes_append w.puts (field_puts column took);
        reach = omega (arith, w.reach, length-set cursors j next);
        passed = λ k l m. moved k l m (order j k);
        here = λ k l m. rw (get_or-set_other cursors j k next 0 (λ e. omega arith)) (w.here k l (omega arith));
      }
    where
      moved : (k : ℕ) → k < length items → k < j + 1 → (j ≤ k) ⊎ (k < j) → Column c items k rows (get_or (set cursors j next) k 0)
      moved k l m (inl n) =
          let e : k ≡ j = omega arith in
          rw (e, get_or-set_same cursors j next 0 (omega (arith, w.reach))) (field_passed (w.here j h (omega arith)) took)
      moved k l m (inr n) = rw (get_or-set_other cursors j k next 0 (λ e. omega arith)) (w.passed k l n)

  -- as a turn of the loop has it
  pub rowing_turn : {item : Item} {next : ℕ} {put : Output} → j < length items → item ≡ get_or items j (raw 0)
      → FieldTook item c (get_or cursors j 0) after put next → Rowing c items row rows before (j + 1) (set cursors j next) put
  rowing_turn {item} {next = next} {put = put} h e took =
      rowing_more h (subst (λ (i : Item). FieldTook i c (get_or cursors j 0) after put next) e took)

  pub rowing_all : length items ≤ j → RowTook c items row rows cursors before.bytes.now before.next after.bytes.now after.next
  rowing_all h =
      let e : (fields in_bytes items).put row ≡ w.bytes = w.whole ∙ ap (λ (s : List ℕ). w.bytes ++ s) (put_none items j row h) ∙ append-nil w.bytes in
      record { puts = rw e w.puts.written; stand = record { reach = w.reach; column = λ k l. w.passed k l (omega arith) } }

-- ---- The first i rows of a table
pub record Taking (c : List ℕ) (items : List Item) (rows : List (Record items)) (before : Output) (i : ℕ) (cursors : List ℕ) (after : Output)
    : Type 0 where
  pub left : List (Record items)
  pub few : length left + i ≡ length rows
  pub bytes : List ℕ
  pub whole : each (fields in_bytes items).put rows ≡ bytes ++ each (fields in_bytes items).put left
  pub puts : Written before.bytes.now before.next bytes after.bytes.now after.next
  pub stand : Stand c items left cursors

pub taking_first : {c : List ℕ} {items : List Item} {rows : List (Record items)} {cursors : List ℕ} (before : Output)
    → length before.bytes.now ≤ 18446744073709551615 → before.next ≤ 18446744073709551615 → Stand c items rows cursors
    → Taking c items rows before 0 cursors before
taking_first {rows = rows} before h k s =
    record { left = rows; few = omega arith; bytes = []; whole = refl; puts = written_none before.bytes.now before.next h k; stand = s }

module _ {c : List ℕ} {items : List Item} {rows : List (Record items)} {before : Output} {i : ℕ} {cursors : List ℕ} {after : Output}
    (w : Taking c items rows before i cursors after) where
  pub taking_more : {cursors' : List ℕ} {after' : Output} → i < length rows
      → ((row : Record items) (more : List (Record items)) → Stand c items (row ∷ more) cursors
      → RowTook c items row more cursors' after.bytes.now after.next after'.bytes.now after'.next)
      → Taking c items rows before (i + 1) cursors' after'
  unfolding each
  taking_more {cursors'} {after'} h took = go w.left w.few w.whole w.stand
    where
      go : (left : List (Record items)) → length left + i ≡ length rows
          → each (fields in_bytes items).put rows ≡ w.bytes ++ each (fields in_bytes items).put left → Stand c items left cursors
          → Taking c items rows before (i + 1) cursors' after'
      go [] f e s = absurd (omega arith)
      go (row ∷ more) f e s =
          let t = took row more s in
          record {
            left = more;
            few = omega arith;
            bytes = w.bytes ++ (fields in_bytes items).put row;
            whole = e ∙ sym (append_assoc w.bytes _ _);
            puts = written_append w.puts t.puts;
            stand = t.stand;
          }

  pub taking_all : length rows ≤ i → Written before.bytes.now before.next (each (fields in_bytes items).put rows) after.bytes.now after.next
  unfolding each
  taking_all h = go w.left w.few w.whole
    where
      go : (left : List (Record items)) → length left + i ≡ length rows
          → each (fields in_bytes items).put rows ≡ w.bytes ++ each (fields in_bytes items).put left
          → Written before.bytes.now before.next (each (fields in_bytes items).put rows) after.bytes.now after.next
      go [] f e = rw (e ∙ append-nil w.bytes) w.puts
      go (row ∷ more) f e = absurd (omega arith)
