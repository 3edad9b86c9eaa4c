-- Fields, records and tables keep the laws of forms, by row and by column, whichever of the two forms a whole number has.
use Prim.Native.Nat.{ℕ, zero, suc, ◌+◌, ◌*◌, ◌/◌, ◌%◌, ◌^◌, ◌≤◌, ◌<◌}
use mathlib.Core.Path.{◌≡◌, refl, sym, ap, ap₂, ◌∙◌, subst}
use mathlib.Core.Logic.{inl, inr}
use mathlib.Core.Bool.{Bool, true, false, cond, ◌&&◌}
use mathlib.Core.List.{List, [], ◌∷◌, ◌++◌, map, zip}
use native.Mathlib.Omega.{arith}
use native.Mathlib.Nat.{pow-succ'}
use lib.Dec.{leb}
use lib.ListN.{length, take, drop, replicate, length-append, length-take, take-append-drop}
use lib.Seq.{take_at, drop_at}
use borrow.Author.Tests.{le-leb, leb-true}
use Rattle.local_format.specs.Refusal.{Refusal}
use Rattle.local_format.specs.Out.{ok, refused, refuse}
use Rattle.local_format.specs.Field.{le}
use Rattle.local_format.proofs.OutLaws.{never, ok_same, refused_same}
use Rattle.local_format.proofs.FieldLaws.{le_drop, le_below}
use Rattle.derivation.proofs.Tests.{both}
use Rattle.groups.specs.Groups.{Bytes, Read, Refuses, wrong, cut}
use Rattle.groups.proofs.BytesLaws.{bytes_none, bytes_more, bytes_before}
use Rattle.groups.proofs.GroupLaws.{groups_bytes, groups_read, read_groups, refused_groups}
use Rattle.evr0_columns.specs.Form.{Form}
use Rattle.evr0_columns.specs.Layout.{Item, raw, whole, text, Of, copied, number, in_bytes, in_groups}
use Rattle.evr0_columns.specs.Layout.{Record, field, fields, by_row, by_column, Table, Tables, tables}
use Rattle.evr0_columns.proofs.FormLaws.{Met, Lawful, nothing_lawful, then_lawful, Many, many_lawful, through_lawful}

-- ---- Bytes that are copied

pub copied_lawful : (n : ℕ) → Lawful (copied n) (λ b. (length b ≡ n) × Bytes b)
unfolding copied
copied_lawful n =
    record {
      bytes = λ b h. h.1;
      back = λ end b after h. rw (le-leb n (length (b ++ after)) (omega (arith, length-append b after)), take_at b after n h.0, drop_at b after n h.0);
      only = λ end c g bytes e. let p = go end c g (leb n (length c)) refl e in (p.0, (p.1, bytes_before g.value g.rest p.0 bytes));
      met = λ end c r bytes h e. cut_met end _ r (leb n (length c)) e;
    }
  where
    cut_met : (end : ℕ) (x : Read (List ℕ)) (r : Refusal) (t : Bool) → cond t (ok x) (refuse 76 end) ≡ refused r → Met end r
    cut_met end x r true e = absurd (never (sym e))
    cut_met end x r false e = inr (sym (refused_same e))

    go : (end : ℕ) (c : List ℕ) (g : Read (List ℕ)) (t : Bool) → leb n (length c) ≡ t
        → cond t (ok (record { value = take n c; rest = drop n c })) (refuse 76 end) ≡ ok g → (c ≡ g.value ++ g.rest) × (length g.value ≡ n)
    go end c g true h e = rw (← ok_same e) (sym (take-append-drop n c), omega (arith, length-take n c, leb-true n (length c) h))
    go end c g false h e = absurd (never e)

-- ---- A whole number in bytes, the lowest first

pub number_length : (width v : ℕ) → length (number width v) ≡ width
unfolding number
number_length zero v = refl
number_length (suc width) v = ap suc (number_length width (v / 256))

le_next : (width x : ℕ) (s : List ℕ) → le width (x ∷ s) 1 ≡ le width s 0
le_next width x s = sym (le_drop width (x ∷ s) 1 0)

le_number : (width v : ℕ) → v < 256 ^ width → le width (number width v) 0 ≡ v
unfolding le number
le_number zero v h = omega arith
le_number (suc width) v h =
    let k : v < 256 * 256 ^ width = rw (pow-succ' 256 width) at h in
    rw (le_next width (v % 256) (number width (v / 256)), le_number width (v / 256) (omega (arith, k))) (omega arith)

number_le : (width : ℕ) (b : List ℕ) → length b ≡ width → Bytes b → number width (le width b 0) ≡ b
unfolding le number
number_le zero [] h bytes = refl
number_le zero (x ∷ b) h bytes = absurd (omega arith)
number_le (suc width) [] h bytes = absurd (omega arith)
number_le (suc width) (x ∷ b) h bytes =
    let v : ℕ = le width b 0 in
    let p : (x + 256 * v) % 256 ≡ x = omega (arith, bytes 0) in
    let q : (x + 256 * v) / 256 ≡ v = omega (arith, bytes 0) in
    let later = number_le width b (omega arith) (λ i. bytes (suc i)) in
    rw (le_next width x b) (ap₂ (λ (y w : ℕ). y ∷ number width w) p q ∙ ap (λ (s : List ℕ). x ∷ s) later)

number_bytes : (width v : ℕ) → Bytes (number width v)
unfolding number
number_bytes zero v = bytes_none
number_bytes (suc width) v = bytes_more (v % 256) (number width (v / 256)) (omega arith) (number_bytes width (v / 256))

pub bytes_lawful : (width : ℕ) → Lawful (in_bytes width) (λ v. v < 256 ^ width)
unfolding in_bytes
bytes_lawful width =
    through_lawful (copied_lawful width) (number width) (λ b. le width b 0) (λ v. v < 256 ^ width)
    (λ v h. (number_length width v, number_bytes width v)) (le_number width)
    (λ b h. le_below width b h.1 0) (λ b h. number_le width b h.0 h.1)

-- ---- And in groups

-- a field of 1 to 8 bytes
abbrev pub narrow : ℕ → Bool
narrow width = leb 1 width && leb width 8

number_met : (width end : ℕ) (c : List ℕ) (r : Refusal) → length c ≤ end → Refuses width end c r → Met end r
number_met width end c r h (wrong p x q e before not) = inl (refl, omega (arith, simp length-append at (ap length e)))
number_met width end c r h (cut before) = inr refl

pub groups_lawful : (width : ℕ) → narrow width ≡ true → Lawful (in_groups width) (λ v. v < 256 ^ width)
unfolding in_groups
groups_lawful width h =
    let (p, q) = both (leb 1 width) (leb width 8) h in
    let l = leb-true 1 width p in
    let u = leb-true width 8 q in
    record {
      bytes = λ v k. groups_bytes 10 v;
      back = λ end v after k. groups_read width end l u v after k;
      only = λ end c g bytes e. read_groups width end l u c bytes g e;
      met = λ end c r bytes k e. number_met width end c r k (refused_groups width end l u c bytes r e);
    }

-- ---- Fields and records

-- the values that fit
abbrev pub FitsItem : (i : Item) → Of i → Type 0
FitsItem (raw n) b = (length b ≡ n) × Bytes b
FitsItem (whole width) v = v < 256 ^ width
FitsItem text b = (length b < 256 ^ 2) × Bytes b

abbrev pub FitsRecord : (is : List Item) → Record is → Type 0
FitsRecord [] r = Unit {0}
FitsRecord (i ∷ is) r = FitsItem i r.0 × FitsRecord is r.1

-- whole numbers of 1 to 8 bytes
abbrev pub narrow_item : Item → Bool
narrow_item (raw n) = true
narrow_item (whole width) = narrow width
narrow_item text = true

abbrev pub narrow_items : List Item → Bool
narrow_items [] = true
narrow_items (i ∷ is) = narrow_item i && narrow_items is

-- ---- Columns
module _ {A B : Type 0} where
  abbrev pub firsts : List (A × B) → List A
  firsts rows = map (λ r. r.0) rows

  abbrev pub seconds : List (A × B) → List B
  seconds rows = map (λ r. r.1) rows

  zip_back : (rows : List (A × B)) → zip (firsts rows) (seconds rows) ≡ rows
  unfolding zip
  zip_back [] = refl
  zip_back (r ∷ rows) = ap (λ (s : List (A × B)). r ∷ s) (zip_back rows)

  module _ (F : A → Type 0) (G : B → Type 0) where
    abbrev pub FitsPair : A × B → Type 0
    FitsPair r = F r.0 × G r.1

    pub apart_fits : (n : ℕ) (rows : List (A × B)) → Many FitsPair n rows → Many F n (firsts rows) × Many G n (seconds rows)
    apart_fits zero [] h = (tt, tt)
    apart_fits zero (r ∷ rows) h = absurd h
    apart_fits (suc n) [] h = absurd h
    apart_fits (suc n) (r ∷ rows) h = let p = apart_fits n rows h.1 in ((h.0.0, p.0), (h.0.1, p.1))

    zip_fits : (n : ℕ) (xs : List A) (ys : List B) → Many F n xs → Many G n ys → Many FitsPair n (zip xs ys)
    unfolding zip
    zip_fits zero [] [] h k = tt
    zip_fits zero [] (y ∷ ys) h k = absurd k
    zip_fits zero (x ∷ xs) ys h k = absurd h
    zip_fits (suc n) [] ys h k = absurd h
    zip_fits (suc n) (x ∷ xs) [] h k = absurd k
    zip_fits (suc n) (x ∷ xs) (y ∷ ys) h k = ((h.0, k.0), zip_fits n xs ys h.1 k.1)

    zip_apart : (n : ℕ) (xs : List A) (ys : List B) → Many F n xs → Many G n ys → (firsts (zip xs ys) ≡ xs) × (seconds (zip xs ys) ≡ ys)
    unfolding zip
    zip_apart zero [] [] h k = (refl, refl)
    zip_apart zero [] (y ∷ ys) h k = absurd k
    zip_apart zero (x ∷ xs) ys h k = absurd h
    zip_apart (suc n) [] ys h k = absurd h
    zip_apart (suc n) (x ∷ xs) [] h k = absurd k
    zip_apart (suc n) (x ∷ xs) (y ∷ ys) h k =
        let p = zip_apart n xs ys h.1 k.1 in (ap (λ (l : List A). x ∷ l) p.0, ap (λ (l : List B). y ∷ l) p.1)

-- records of no field
empty_rows : (n : ℕ) (rows : List (Unit {0})) → Many (λ u. Unit {0}) n rows → replicate n tt ≡ rows
empty_rows zero [] h = refl
empty_rows zero (r ∷ rows) h = absurd h
empty_rows (suc n) [] h = absurd h
empty_rows (suc n) (r ∷ rows) h = ap (λ (l : List (Unit {0})). tt ∷ l) (empty_rows n rows h.1)

empty_fit : (n : ℕ) → Many (λ (u : Unit {0}). Unit {0}) n (replicate n tt)
empty_fit zero = tt
empty_fit (suc n) = (tt, empty_fit n)

module _ (numbers : ℕ → Form ℕ) (law : (width : ℕ) → narrow width ≡ true → Lawful (numbers width) (λ v. v < 256 ^ width)) where
  field_lawful : (i : Item) → narrow_item i ≡ true → Lawful (field numbers i) (FitsItem i)
  unfolding field
  field_lawful (raw n) h = copied_lawful n
  field_lawful (whole width) h = law width h
  field_lawful text h =
      through_lawful (then_lawful (law 2 refl) copied_lawful) (λ b. (length b, b)) (λ t. t.1) (FitsItem text)
      (λ b k. (k.0, (refl, k.1))) (λ b k. refl)
      (λ t k. (subst (λ (n : ℕ). n < 256 ^ 2) (sym k.1.0) k.0, k.1.1)) (λ t k. ap (λ (n : ℕ). (n, t.1)) k.1.0)

  pub fields_lawful : (is : List Item) → narrow_items is ≡ true → Lawful (fields numbers is) (FitsRecord is)
  unfolding fields
  fields_lawful [] h = nothing_lawful
  fields_lawful (i ∷ is) h =
      let (p, q) = both (narrow_item i) (narrow_items is) h in
      let rest = fields_lawful is q in
      then_lawful (field_lawful i p) (λ v. rest)

  pub row_lawful : (n : ℕ) (is : List Item) → narrow_items is ≡ true → Lawful (by_row numbers n is) (Many (FitsRecord is) n)
  row_lawful n is h = many_lawful (fields_lawful is h) n

  pub column_lawful : (n : ℕ) (is : List Item) → narrow_items is ≡ true → Lawful (by_column numbers n is) (Many (FitsRecord is) n)
  unfolding by_column
  column_lawful n [] h =
      through_lawful nothing_lawful (λ rows. tt) (λ u. replicate n tt) (Many (FitsRecord []) n)
      (λ rows k. tt) (empty_rows n) (λ u k. empty_fit n) (λ u k. refl)
  column_lawful n (i ∷ is) h =
      let (p, q) = both (narrow_item i) (narrow_items is) h in
      let rest = column_lawful n is q in
      let F = FitsItem i in
      let G = FitsRecord is in
      through_lawful (then_lawful (many_lawful (field_lawful i p) n) (λ v. rest)) (λ rows. (firsts rows, seconds rows)) (λ t. zip t.0 t.1)
      (Many (FitsRecord (i ∷ is)) n) (apart_fits F G n) (λ rows k. zip_back rows) (λ t k. zip_fits F G n t.0 t.1 k.0 k.1)
      (λ t k. let z = zip_apart F G n t.0 t.1 k.0 k.1 in ap₂ (λ (x : List (Of i)) (y : List (Record is)). (x, y)) z.0 z.1)

-- ---- Several tables
abbrev pub FitsTables : (ts : List Table) → Tables ts → Type 0
FitsTables [] v = Unit {0}
FitsTables (t ∷ ts) v = Many (FitsRecord t.items) t.count v.0 × FitsTables ts v.1

abbrev pub narrow_tables : List Table → Bool
narrow_tables [] = true
narrow_tables (t ∷ ts) = narrow_items t.items && narrow_tables ts

pub tables_lawful : (table : ℕ → (is : List Item) → Form (List (Record is)))
    → ((n : ℕ) (is : List Item) → narrow_items is ≡ true → Lawful (table n is) (Many (FitsRecord is) n))
    → (ts : List Table) → narrow_tables ts ≡ true → Lawful (tables table ts) (FitsTables ts)
unfolding tables
tables_lawful table law [] h = nothing_lawful
tables_lawful table law (t ∷ ts) h =
    let (p, q) = both (narrow_items t.items) (narrow_tables ts) h in
    let rest = tables_lawful table law ts q in
    then_lawful (law t.count t.items p) (λ rows. rest)
