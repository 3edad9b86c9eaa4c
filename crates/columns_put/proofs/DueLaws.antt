-- The columns of a section whose tables were read, by places: the head's fields, then each table's from the starts of its records. The witnesses and
-- the parents have one size each and end the payload.
use Prim.Native.Nat.{ℕ, zero, suc, ◌+◌, ◌-◌, ◌*◌, ◌≤◌}
use mathlib.Core.Path.{◌≡◌, refl, sym, ap, ap₂, ◌∙◌, subst}
use mathlib.Core.List.{List, [], ◌∷◌, ◌++◌, zip_with, append_assoc, append-nil}
use native.Mathlib.Omega.{arith}
use native.Mathlib.Nat.{mul-add}
use lib.ListN.{length, drop}
use Rattle.local_format.specs.Out.{Out, ok, moved}
use Rattle.local_format.proofs.OutLaws.{ok_same, on_ok, bind_ok, then_ok, moved_ok}
use Rattle.evr0_section.specs.Rows.{Row, Rows, rows, starts_of}
use Rattle.evr0_section.specs.Head.{Counts, span_width, witness_size}
use Rattle.evr0_section.specs.Witness.{WitnessRecord, witness_of, check_witness, witness_row, parent_row}
use Rattle.evr0_section.specs.Section.{Tables}
use Rattle.evr0_section.proofs.CheckedTables.{Steps, steps}
use Rattle.evr0_section.proofs.RecordLaws.{witness_lies, parent_lies}
use Rattle.byte_output.specs.Written.{Written}
use Rattle.byte_output.specs.Maps.{Writes}
use Rattle.byte_output.specs.declared.Output.{Output}
use Rattle.byte_output.proofs.WrittenLaws.{writes_append}
use Rattle.evr0_columns.specs.Form.{rewritten}
use Rattle.evr0_columns.specs.Layout.{Table}
use Rattle.evr0_columns.specs.Columns.{head_items, proposition_items, proof_items, witness_items, parent_items, layout_of, layout, columns_of}
use Rattle.evr0_columns.proofs.SectionRead.{starts_in, TablesRead}
use Rattle.evr0_columns.proofs.Frames.{Placed, placed}
use Rattle.columns_put.specs.Places.{after_fields, evenly, Inside, fields_moved, table_moved, tables_moved}
use Rattle.columns_put.specs.Due.{Due, Puts, witness_starts, parent_starts, LastIn, last_moved, listed_moved}
use Rattle.columns_put.proofs.FormPlaces.{fields_move}
use Rattle.columns_put.proofs.ColumnLaws.{tables_moved_lem, each_inside}

-- ---- Tables whose records have one size
module _ {A S : Type 0} (row : S → List ℕ → Out (Row A S)) (size : ℕ) (sized : (u : S) (s : List ℕ) (r : Row A S) → row u s ≡ ok r → r.size ≡ size)
    (p : List ℕ) where
  rows_even : (n at : ℕ) (u : S) (t : Rows A S) → rows row n u p at ≡ ok t → (starts_of t.entries ≡ evenly n size at) × (t.next ≡ at + size * n)
  unfolding rows evenly
  rows_even zero at u t e = rw (← ok_same e) (refl, omega arith)
  rows_even (suc n) at u t e =
      let (x, f, e1) = bind_ok (moved at (row u (drop at p))) _ e in
      let (w, g, e2) = bind_ok (rows row n x.state p (at + x.size)) _ e1 in
      let k : x.size ≡ size = sized u (drop at p) x (moved_ok at _ f) in
      let (starts, next) = rows_even n (at + x.size) x.state w g in
      rw (← ok_same e2) (ap (λ (s : List ℕ). at ∷ s) (starts ∙ rw k), omega (arith, next, k, mul-add size n 1))

witness_sized : (width : ℕ) (counts : Counts) (w : ℕ) (s : List ℕ) (r : Row WitnessRecord ℕ) → witness_row width counts w s ≡ ok r
    → r.size ≡ witness_size width
unfolding witness_row
witness_sized width counts w s r e =
    let (x, f, e1) = bind_ok (witness_of width s) _ e in
    let (u, c, e2) = then_ok (check_witness counts w x.item) _ e1 in
    rw (← ok_same e2) (witness_lies s 0 width x f).size

parent_sized : (u : Unit {0}) (s : List ℕ) (r : Row ℕ (Unit {0})) → parent_row u s ≡ ok r → r.size ≡ 4
parent_sized u s r e = (parent_lies s 0 u r e).1

joined : (a b c d : List ℕ) → a ++ (b ++ (c ++ (d ++ []))) ≡ (a ++ b) ++ (c ++ d)
joined a b c d = rw (append-nil d, append_assoc)

-- ---- What the code relies on, and what it writes

-- whatever starts the witnesses and the parents have
record By (width : ℕ) (section propositions proofs witnesses parents : List ℕ) : Type 0 where
  head_in : after_fields head_items section 0 ≤ length section
  propositions_in : Inside (drop 8 section) proposition_items propositions
  proofs_in : Inside (drop 8 section) proof_items proofs
  witnesses_in : Inside (drop 8 section) (witness_items width) witnesses
  parents_in : Inside (drop 8 section) parent_items parents
  columns : columns_of section
      ≡ ok (fields_moved head_items section 0 ++ (listed_moved (drop 8 section) propositions proofs
      ++ (table_moved (witness_items width) (drop 8 section) witnesses ++ table_moved parent_items (drop 8 section) parents)))

pub record Known (section propositions proofs : List ℕ) (witnesses parents width : ℕ) : Type 0 where
  pub head_in : after_fields head_items section 0 ≤ length section
  pub propositions_in : Inside (drop 8 section) proposition_items propositions
  pub proofs_in : Inside (drop 8 section) proof_items proofs
  pub last : LastIn width (drop 8 section) witnesses parents
  pub columns : columns_of section
      ≡ ok (fields_moved head_items section 0 ++ (listed_moved (drop 8 section) propositions proofs ++ last_moved width (drop 8 section) witnesses parents))

module _ {section propositions proofs : List ℕ} {witnesses parents schema : ℕ} (due : Due section propositions proofs witnesses parents schema) where
  abbrev payload : List ℕ
  payload = drop 8 section

  abbrev t : Tables
  t = due.tables

  abbrev size : ℕ
  size = witness_size (span_width schema)

  placing : Placed section t
  placing = placed due.rules due.room section t due.long due.read

  by : By (span_width t.head.schema) section (starts_of t.propositions.entries) (starts_of t.proofs.entries)
      (starts_of t.witnesses.entries) (starts_of t.parents.entries)
  unfolding columns_of rewritten layout_of zip_with
  by =
      let h = fields_move (length section) section head_items 0 (omega arith) _ placing.head_reads in
      let v = placing.tables in
      let moved = tables_moved_lem (length section) payload (layout placing.head) (starts_in t) v.values v.stand
      ∙ ap (λ (ts : List Table). tables_moved ts payload (starts_in t)) placing.same in
      let same = joined (table_moved proposition_items payload (starts_of t.propositions.entries))
      (table_moved proof_items payload (starts_of t.proofs.entries))
      (table_moved (witness_items (span_width t.head.schema)) payload (starts_of t.witnesses.entries))
      (table_moved parent_items payload (starts_of t.parents.entries)) in
      let stand = (subst (λ (ts : List Table). TablesRead (length section) payload t.head.next (starts_in t) ts) placing.same v).stand in
      record {
        head_in = h.within;
        propositions_in = each_inside _ _ stand.0;
        proofs_in = each_inside _ _ stand.1.0;
        witnesses_in = each_inside _ _ stand.1.1.0;
        parents_in = each_inside _ _ stand.1.1.1.0;
        columns = on_ok _ placing.read ∙ ap ok (ap₂ ◌++◌ h.moved (moved ∙ same));
      }

  abbrev st : Steps due.rules due.room payload t
  st = steps due.rules due.room payload t due.read

  abbrev w : ℕ
  w = witness_size (span_width t.head.schema)

  even_witnesses : (starts_of t.witnesses.entries ≡ evenly t.head.counts.witnesses w t.proofs.next)
      × (t.witnesses.next ≡ t.proofs.next + w * t.head.counts.witnesses)
  even_witnesses = rows_even _ w (witness_sized (span_width t.head.schema) t.head.counts) payload _ _ _ t.witnesses st.witnesses

  even_parents : (starts_of t.parents.entries ≡ evenly t.head.counts.parents 4 t.witnesses.next)
      × (t.parents.next ≡ t.witnesses.next + 4 * t.head.counts.parents)
  even_parents = rows_even _ 4 parent_sized payload _ _ _ t.parents st.parents

  room : size * witnesses + 4 * parents ≤ length payload
  room = rw (← due.witness_count, ← due.parent_count, ← due.schema_is) (omega (arith, even_witnesses.1, even_parents.1, st.whole))

  there : By (span_width schema) section propositions proofs (witness_starts (span_width schema) payload witnesses parents) (parent_starts payload parents)
  there =
      let c = even_parents.1 in
      let d = even_witnesses.1 in
      let e = st.whole in
      let a : t.witnesses.next ≡ length payload - 4 * t.head.counts.parents = omega arith in
      let b : t.proofs.next ≡ length payload - 4 * t.head.counts.parents - w * t.head.counts.witnesses = omega arith in
      rw (
        ← due.proposition_starts,
        ← due.proof_starts,
        ← due.witness_count,
        ← due.parent_count,
        ← due.schema_is,
        ← b,
        ← a,
        ← even_witnesses.0,
        ← even_parents.0,
      ) by

  pub known : Known section propositions proofs witnesses parents (span_width schema)
  known =
      let x = there in
      record {
        head_in = x.head_in;
        propositions_in = x.propositions_in;
        proofs_in = x.proofs_in;
        last = record { room = room; witnesses_in = x.witnesses_in; parents_in = x.parents_in };
        columns = x.columns;
      }

-- as the code has them: with the payload as a part of the section, and with the width that its schema gives
module _ {section propositions proofs : List ℕ} {witnesses parents width : ℕ} (k : Known section propositions proofs witnesses parents width)
    {p : List ℕ} (part : p ≡ drop 8 section) where
  pub listed_in : Inside p proposition_items propositions × Inside p proof_items proofs
  listed_in = rw part (k.propositions_in, k.proofs_in)

  module _ {span : ℕ} (same : span ≡ width) where
    pub last_in : LastIn span p witnesses parents
    last_in = rw (part, same) k.last

    pub all_put : {s t u v : Output} → s.next ≡ 0 → Writes s (fields_moved head_items section 0) t → Writes t (listed_moved p propositions proofs) u
        → Writes u (last_moved span p witnesses parents) v → Puts section s.bytes.now v.bytes.now v.next
    all_put {s} {v = v} z h l e =
        let w = (writes_append (writes_append h l) e).written in
        record { columns = _; are = k.columns; put = rw (← append_assoc, ← part, ← same) (rw z at w) }

pub put_as : {section before after columns : List ℕ} {next : ℕ} → Puts section before after next → columns_of section ≡ ok columns
    → Written before 0 columns after next
put_as p is = rw (← ok_same (sym p.are ∙ is)) p.put
