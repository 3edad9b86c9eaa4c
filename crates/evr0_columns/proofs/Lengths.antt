-- How long columns are: at most a quarter more than their section, and at least an eighth of it. Each field keeps both bounds, and so does each way to
-- make a form; a table by column has the fields that it has by row.
use Prim.Native.Nat.{ℕ, zero, suc, ◌+◌, ◌-◌, ◌*◌, ◌/◌, ◌^◌, ◌≤◌, ◌<◌}
use mathlib.Core.Path.{◌≡◌, refl, sym, ap, subst}
use mathlib.Core.Logic.{⊎_elim}
use mathlib.Core.Bool.{Bool, true, false, cond, ◌&&◌, ◌||◌, false≢true}
use mathlib.Core.List.{List, [], ◌∷◌}
use native.Mathlib.Omega.{arith}
use native.Mathlib.Nat.{pow-succ'}
use lib.Dec.{eqb}
use lib.ListN.{length, drop, length-append, length-take}
use borrow.Author.Tests.{eqb-true}
use Rattle.local_format.specs.Out.{ok}
use Rattle.local_format.proofs.OutLaws.{ok_same, bind_ok}
use Rattle.derivation.proofs.Tests.{both, order}
use Rattle.evr0_section.specs.Head.{Room, span_width}
use Rattle.evr0_section.specs.Section.{Section}
use Rattle.rule_table.specs.ByTable.{Given, decode_by}
use Rattle.groups.specs.Groups.{Bytes, groups_in, groups}
use Rattle.groups.proofs.GroupLaws.{groups_last, groups_more}
use Rattle.evr0_columns.specs.Form.{Form, nothing, and_then, each, rewritten, whole as whole_file}
use Rattle.evr0_columns.specs.Layout.{Item, raw, whole, text, copied, in_bytes, in_groups, Record, field, fields, by_row, by_column, Table, tables}
use Rattle.evr0_columns.specs.Columns.{Head, head_items, witness_items, schema_of, layout_of, layout, section_form, column_form}
use Rattle.evr0_columns.specs.Columns.{columns_of, rebuilt, Copy, section_bytes, written}
use Rattle.evr0_columns.proofs.FormLaws.{Many, whole_only}
use Rattle.evr0_columns.proofs.LayoutLaws.{number_length, FitsItem, FitsRecord, FitsTables, firsts, seconds, apart_fits}
use Rattle.evr0_columns.proofs.RoundTrips.{Fits, section_lawful, section_back, rebuilt_bytes, part_bytes, has_columns, written_there}

-- ---- Groups

-- a number below 128 ^ k takes at most k groups, and one at least
few_groups : (most k n : ℕ) → n < 128 ^ suc k → length (groups_in most n) ≤ suc k
unfolding groups_in
few_groups zero k n h = omega arith
few_groups (suc most) zero n h = rw (groups_last most n (omega arith)) (omega arith)
few_groups (suc most) (suc k) n h =
    ⊎_elim
    (λ (l : 128 ≤ n).
    let p : n < 128 * 128 ^ suc k = rw (pow-succ' 128 (suc k)) at h in
    rw (groups_more most n l) (omega (arith, few_groups most k (n / 128) (omega (arith, p)))))
    (λ (l : n < 128). rw (groups_last most n l) (omega arith))
    (order 128 n)

some_groups : (n : ℕ) → 1 ≤ length (groups n)
some_groups n = ⊎_elim (λ l. rw (groups_more 9 n l) (omega arith)) (λ l. rw (groups_last 9 n l) (omega arith)) (order 128 n)

-- ---- Two forms of the same values
pub record Near {A : Type 0} (one two : Form A) (F : A → Type 0) : Type 0 where
  pub most : (a : A) → F a → 4 * length (two.put a) ≤ 5 * length (one.put a)
  pub least : (a : A) → F a → length (one.put a) ≤ 8 * length (two.put a)

nothing_near : Near nothing nothing (λ u. Unit {0})
nothing_near = record { most = λ u h. omega arith; least = λ u h. omega arith }

module _ {A : Type 0} {B : A → Type 0} {one two : Form A} {first second : (a : A) → Form (B a)} {F : A → Type 0} {G : (a : A) → B a → Type 0}
    (near : Near one two F) (then : (a : A) → Near (first a) (second a) (G a)) where
  then_near : Near (and_then one first) (and_then two second) (λ v. F v.0 × G v.0 v.1)
  then_near =
      record {
        most = λ v h. simp length-append (omega (arith, near.most v.0 h.0, (then v.0).most v.1 h.1));
        least = λ v h. simp length-append (omega (arith, near.least v.0 h.0, (then v.0).least v.1 h.1));
      }

module _ {A : Type 0} {one two : Form A} {F : A → Type 0} (near : Near one two F) where
  many_most : (n : ℕ) (vs : List A) → Many F n vs → 4 * length (each two.put vs) ≤ 5 * length (each one.put vs)
  unfolding each
  many_most zero [] h = omega arith
  many_most zero (v ∷ vs) h = absurd h
  many_most (suc n) [] h = absurd h
  many_most (suc n) (v ∷ vs) h = simp length-append (omega (arith, near.most v h.0, many_most n vs h.1))

  many_least : (n : ℕ) (vs : List A) → Many F n vs → length (each one.put vs) ≤ 8 * length (each two.put vs)
  unfolding each
  many_least zero [] h = omega arith
  many_least zero (v ∷ vs) h = absurd h
  many_least (suc n) [] h = absurd h
  many_least (suc n) (v ∷ vs) h = simp length-append (omega (arith, near.least v h.0, many_least n vs h.1))

-- ---- Fields, records, and tables by row and by column

-- whole numbers of 4 or 8 bytes
abbrev even : Item → Bool
even (raw n) = true
even (whole width) = eqb width 4 || eqb width 8
even text = true

abbrev even_items : List Item → Bool
even_items [] = true
even_items (i ∷ is) = even i && even_items is

near_4 : Near (in_bytes 4) (in_groups 4) (λ v. v < 256 ^ 4)
unfolding in_bytes in_groups copied
near_4 =
    record {
      most = λ v h. omega (arith, number_length 4 v, few_groups 10 4 v (omega arith));
      least = λ v h. omega (arith, number_length 4 v, some_groups v);
    }

near_8 : Near (in_bytes 8) (in_groups 8) (λ v. v < 256 ^ 8)
unfolding in_bytes in_groups copied
near_8 =
    record {
      most = λ v h. omega (arith, number_length 8 v, few_groups 10 9 v (omega arith));
      least = λ v h. omega (arith, number_length 8 v, some_groups v);
    }

number_near : (width : ℕ) → (eqb width 4 || eqb width 8) ≡ true → Near (in_bytes width) (in_groups width) (λ v. v < 256 ^ width)
number_near width h = go (eqb width 4) (eqb width 8) refl refl h
  where
    go : (a b : Bool) → eqb width 4 ≡ a → eqb width 8 ≡ b → (a || b) ≡ true → Near (in_bytes width) (in_groups width) (λ v. v < 256 ^ width)
    go true b e f t = subst (λ (w : ℕ). Near (in_bytes w) (in_groups w) (λ v. v < 256 ^ w)) (sym (eqb-true width 4 e)) near_4
    go false true e f t = subst (λ (w : ℕ). Near (in_bytes w) (in_groups w) (λ v. v < 256 ^ w)) (sym (eqb-true width 8 f)) near_8
    go false false e f t = absurd (false≢true t)

-- a text's length takes a third group only where the text has 16,384 bytes
text_groups : (n : ℕ) → n < 256 ^ 2 → 4 * length (groups n) ≤ 10 + n
text_groups n h =
    ⊎_elim (λ (l : 16384 ≤ n). omega (arith, few_groups 10 2 n (omega arith))) (λ (l : n < 16384). omega (arith, few_groups 10 1 n (omega arith)))
    (order 16384 n)

text_near : Near (field in_bytes text) (field in_groups text) (FitsItem text)
unfolding field in_bytes in_groups copied
text_near =
    record {
      most = λ b h. simp length-append (omega (arith, number_length 2 (length b), text_groups (length b) h.0));
      least = λ b h. simp length-append (omega (arith, number_length 2 (length b), some_groups (length b)));
    }

field_near : (i : Item) → even i ≡ true → Near (field in_bytes i) (field in_groups i) (FitsItem i)
unfolding field copied
field_near (raw n) h = record { most = λ b k. omega arith; least = λ b k. omega arith }
field_near (whole width) h = number_near width h
field_near text h = text_near

fields_near : (is : List Item) → even_items is ≡ true → Near (fields in_bytes is) (fields in_groups is) (FitsRecord is)
unfolding fields
fields_near [] h = nothing_near
fields_near (i ∷ is) h = let (p, q) = both (even i) (even_items is) h in then_near (field_near i p) (λ v. fields_near is q)

-- a table by row has the bytes of its first column and those of the others
apart : (i : Item) (is : List Item) (rows : List (Record (i ∷ is)))
    → length (each (fields in_bytes (i ∷ is)).put rows)
    ≡ length (each (field in_bytes i).put (firsts rows)) + length (each (fields in_bytes is).put (seconds rows))
unfolding each fields
apart i is [] = refl
apart i is (r ∷ rows) = simp length-append (omega (arith, apart i is rows))

no_bytes : (rows : List (Unit {0})) → length (each (fields in_bytes []).put rows) ≡ 0
unfolding each fields
no_bytes [] = refl
no_bytes (r ∷ rows) = no_bytes rows

table_near : (n : ℕ) (is : List Item) → even_items is ≡ true → Near (by_row in_bytes n is) (by_column in_groups n is) (Many (FitsRecord is) n)
unfolding by_column
table_near n [] h = record { most = λ rows k. omega arith; least = λ rows k. omega (arith, no_bytes rows) }
table_near n (i ∷ is) h =
    let (p, q) = both (even i) (even_items is) h in
    let first = field_near i p in
    let rest = table_near n is q in
    record {
      most = λ rows k.
          let (f, g) = apart_fits (FitsItem i) (FitsRecord is) n rows k in
          simp length-append (omega (arith, apart i is rows, many_most first n (firsts rows) f, rest.most (seconds rows) g));
      least = λ rows k.
          let (f, g) = apart_fits (FitsItem i) (FitsRecord is) n rows k in
          simp length-append (omega (arith, apart i is rows, many_least first n (firsts rows) f, rest.least (seconds rows) g));
    }

-- ---- Files
abbrev even_tables : List Table → Bool
even_tables [] = true
even_tables (t ∷ ts) = even_items t.items && even_tables ts

tables_near : (ts : List Table) → even_tables ts ≡ true → Near (tables (by_row in_bytes) ts) (tables (by_column in_groups) ts) (FitsTables ts)
unfolding tables
tables_near [] h = nothing_near
tables_near (t ∷ ts) h =
    let (p, q) = both (even_items t.items) (even_tables ts) h in then_near (table_near t.count t.items p) (λ rows. tables_near ts q)

layout_even : (h : Head) → even_tables (layout h) ≡ true
unfolding layout_of span_width
layout_even h = go (eqb (schema_of h) 2)
  where
    go : (t : Bool) → (even_items (witness_items (cond t 8 4)) && true) ≡ true
    go true = refl
    go false = refl

contents_near : Near section_form column_form Fits
contents_near = then_near (fields_near head_items refl) (λ h. tables_near (layout h) (layout_even h))

-- the columns of a section have at most a quarter more bytes, and a section has at most eight for each byte of its columns
pub columns_length : (s c : List ℕ) → Bytes s → columns_of s ≡ ok c → (4 * length c ≤ 5 * length s) × (length s ≤ 8 * length c)
unfolding columns_of rewritten
columns_length s c bytes e =
    let (a, f, g) = bind_ok (whole_file section_form s) _ e in
    let (p, fits) = whole_only section_lawful s a bytes f in
    let x = ap length p in
    let y = ap length (ok_same g) in
    (omega (arith, x, y, contents_near.most a fits), omega (arith, x, y, contents_near.least a fits))

-- ---- Outputs that are always enough

-- a quarter more than the section: it is written wherever it is accepted
pub written_enough : (given : Given) (room : Room) (out : ℕ) (s : List ℕ) (cursor : ℕ) (d : Section) → Bytes s → decode_by given room s cursor ≡ ok d
    → (d.cursor - cursor) + (d.cursor - cursor) / 4 ≤ out → (x : Copy) × (written given room out s cursor ≡ ok x)
written_enough given room out s cursor d bytes e h =
    let n : ℕ = d.cursor - cursor in
    let (c, f) = has_columns given room s cursor d e in
    let (l, m) = columns_length (section_bytes s cursor d.cursor) c (part_bytes s cursor n bytes) f in
    (_, written_there given room s cursor d e out c f (omega (arith, l, length-take n (drop cursor s))))

-- eight times the columns: whatever they rebuild fits
pub rebuilt_enough : (c s : List ℕ) → Bytes c → rebuilt c ≡ ok s → length s ≤ 8 * length c
rebuilt_enough c s bytes e = (columns_length s c (rebuilt_bytes s c bytes e) (section_back s c bytes e)).1
