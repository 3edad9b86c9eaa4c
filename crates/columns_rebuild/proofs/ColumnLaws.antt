-- After the first pass over a table each column stands at its first field: what `by_column` reads are rows whose k-th fields are the k-th column,
-- read from where the columns before it end.
use Prim.Native.Nat.{ℕ, zero, suc, ◌≤◌, ◌<◌}
use mathlib.Core.Path.{◌≡◌, refl, sym, ap, ◌∙◌}
use mathlib.Core.List.{List, [], ◌∷◌, map, zip, map-map}
use native.Mathlib.Omega.{arith}
use lib.ListN.{length, get_or, take, drop, length-replicate}
use Rattle.local_format.specs.Out.{Out, ok}
use Rattle.local_format.proofs.OutLaws.{ok_same, on_ok, bind_ok}
use Rattle.groups.specs.Groups.{Read}
use Rattle.evr0_columns.specs.Form.{Form, and_then, get_many, many}
use Rattle.evr0_columns.specs.Layout.{Item, raw, Of, Record, in_groups, field, by_column}
use Rattle.column_fields.specs.Past.{past}
use Rattle.column_fields.proofs.TableLaws.{table_of, table_cons, table_none}
use Rattle.columns_rebuild.specs.Noted.{Starts}
use Rattle.columns_rebuild.specs.Stand.{part, Stand}

-- ---- How many
many_length : {A : Type 0} (form : Form A) (n end : ℕ) (s : List ℕ) (g : Read (List A)) → get_many form n end s ≡ ok g → length g.value ≡ n
unfolding get_many
many_length form zero end s g e = rw (← ok_same e) refl
many_length form (suc n) end s g e =
    let (x, f, e1) = bind_ok (form.get end s) _ e in
    let (y, k, e2) = bind_ok (get_many form n end x.rest) _ e1 in
    rw (← ok_same e2) (ap suc (many_length form n end x.rest y k))

module _ {A B : Type 0} where
  zip_length : (n : ℕ) (xs : List A) (ys : List B) → length xs ≡ n → length ys ≡ n → length (zip xs ys) ≡ n
  unfolding zip
  zip_length zero [] ys h k = h
  zip_length zero (x ∷ xs) ys h k = absurd (omega arith)
  zip_length (suc n) [] ys h k = absurd (omega arith)
  zip_length (suc n) (x ∷ xs) [] h k = absurd (omega arith)
  zip_length (suc n) (x ∷ xs) (y ∷ ys) h k = ap suc (zip_length n xs ys (omega arith) (omega arith))

  zip_firsts : (n : ℕ) (xs : List A) (ys : List B) → length xs ≡ n → length ys ≡ n → map (λ r. r.0) (zip xs ys) ≡ xs
  unfolding zip
  zip_firsts n [] ys h k = refl
  zip_firsts zero (x ∷ xs) ys h k = absurd (omega arith)
  zip_firsts (suc n) (x ∷ xs) [] h k = absurd (omega arith)
  zip_firsts (suc n) (x ∷ xs) (y ∷ ys) h k = ap (λ (l : List A). x ∷ l) (zip_firsts n xs ys (omega arith) (omega arith))

  zip_seconds : (n : ℕ) (xs : List A) (ys : List B) → length xs ≡ n → length ys ≡ n → map (λ r. r.1) (zip xs ys) ≡ ys
  unfolding zip
  zip_seconds n [] [] h k = refl
  zip_seconds n [] (y ∷ ys) h k = absurd (omega arith)
  zip_seconds zero (x ∷ xs) ys h k = absurd (omega arith)
  zip_seconds (suc n) (x ∷ xs) [] h k = absurd (omega arith)
  zip_seconds (suc n) (x ∷ xs) (y ∷ ys) h k = ap (λ (l : List B). y ∷ l) (zip_seconds n xs ys (omega arith) (omega arith))

-- ---- The first column and the others
module _ (n end : ℕ) where
  abbrev table_read : (items : List Item) → List ℕ → Out (Read (List (Record items)))
  table_read items s = (by_column in_groups n items).get end s

  pub record Apart (item : Item) (items : List Item) (s : List ℕ) (g : Read (List (Record (item ∷ items)))) : Type 0 where
    pub first : Read (List (Of item))
    pub others : Read (List (Record items))
    pub one : get_many (field in_groups item) n end s ≡ ok first
    pub more : table_read items first.rest ≡ ok others
    pub is : zip first.value others.value ≡ g.value

  apart : (item : Item) (items : List Item) (s : List ℕ) (g : Read (List (Record (item ∷ items)))) → table_read (item ∷ items) s ≡ ok g
      → Apart item items s g
  unfolding by_column
  apart item items s g e =
      let (a, f, e1) = bind_ok ((and_then (many n (field in_groups item)) (λ v. by_column in_groups n items)).get end s) _ e in
      let (x, p, f1) = bind_ok (get_many (field in_groups item) n end s) _ f in
      let (y, q, f2) = bind_ok (table_read items x.rest) _ f1 in
      let pair = ap (λ (r : Read (List (Of item) × List (Record items))). zip r.value.0 r.value.1) (ok_same f2) in
      let all = ap (λ (r : Read (List (Record (item ∷ items)))). r.value) (ok_same e1) in
      record { first = x; others = y; one = p; more = q; is = pair ∙ all }

  pub table_length : (items : List Item) (s : List ℕ) (g : Read (List (Record items))) → table_read items s ≡ ok g → length g.value ≡ n
  unfolding by_column
  table_length [] s g e = rw (← ok_same e) (length-replicate n tt)
  table_length (item ∷ items) s g e =
      let a = apart item items s g e in
      rw (← a.is)
      (zip_length n a.first.value a.others.value (many_length (field in_groups item) n end s a.first a.one)
      (table_length items a.first.rest a.others a.more))

  -- the k-th column, from where those before it end
  table_column : (items : List Item) (s : List ℕ) (g : Read (List (Record items))) → table_read items s ≡ ok g
      → (k : ℕ) → k < length items → (t : List ℕ) → table_of n end (take k items) s ≡ ok t
      → (rest : List ℕ) × (get_many (field in_groups (get_or items k (raw 0))) n end t ≡ ok (record { value = map (part items k) g.value; rest = rest }))
  table_column [] s g e k h t p = absurd (omega arith)
  table_column (item ∷ items) s g e zero h t p =
      let a = apart item items s g e in
      let f = many_length (field in_groups item) n end s a.first a.one in
      let l = table_length items a.first.rest a.others a.more in
      let same : s ≡ t = ok_same (sym (table_none n end s) ∙ p) in
      let v = ap (map (part (item ∷ items) 0)) (sym a.is) ∙ zip_firsts n a.first.value a.others.value f l in
      (a.first.rest, rw (← same) (a.one ∙ ap (λ (w : List (Of item)). ok (record { value = w; rest = a.first.rest })) (sym v)))
  table_column (item ∷ items) s g e (suc k) h t p =
      let a = apart item items s g e in
      let f = many_length (field in_groups item) n end s a.first a.one in
      let l = table_length items a.first.rest a.others a.more in
      let q : table_of n end (take k items) a.first.rest ≡ ok t =
      sym (on_ok (table_of n end (take k items)) (ap past a.one)) ∙ sym (table_cons n end item (take k items) s) ∙ p in
      let (rest, r) = table_column items a.first.rest a.others a.more k (omega arith) t q in
      let v = ap (map (part (item ∷ items) (suc k))) (sym a.is) ∙ sym (map-map (part items k) (λ r. r.1) (zip a.first.value a.others.value))
      ∙ ap (map (part items k)) (zip_seconds n a.first.value a.others.value f l) in
      (rest, r ∙ ap (λ (w : List (Of (get_or items k (raw 0)))). ok (record { value = w; rest = rest })) (sym v))

-- the starts that the first pass notes are where each column stands
pub first_stand : (c : List ℕ) (items : List Item) (count at : ℕ) (g : Read (List (Record items))) (starts : List ℕ)
    → (by_column in_groups count items).get (length c) (drop at c) ≡ ok g → Starts items count c at (length items) starts
    → length items ≤ length starts → Stand c items g.value starts
first_stand c items count at g starts e s h =
    record {
      reach = h;
      column = λ k l.
          let (rest, r) = table_column count (length c) items (drop at c) g e k l (drop (get_or starts k 0) c) (sym (s.is k l (omega arith))) in
          record { rest = rest; read = rw (table_length count (length c) items (drop at c) g e) r };
    }
