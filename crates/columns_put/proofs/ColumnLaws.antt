-- The columns of tables whose records stand at some places: each column holds, one after the other, the field that stands in each record behind the
-- fields of the columns before. By induction on the fields.
use Prim.Native.Nat.{ℕ, zero, suc, ◌≤◌, ◌<◌}
use mathlib.Core.Path.{◌≡◌, refl, sym, ap, ap₂, ◌∙◌}
use mathlib.Core.List.{List, [], ◌∷◌, ◌++◌, map}
use native.Mathlib.Omega.{arith}
use lib.ListN.{length, get_or, drop}
use Rattle.local_format.specs.Out.{ok}
use Rattle.local_format.proofs.OutLaws.{ok_same, bind_ok}
use Rattle.groups.specs.Groups.{Read}
use Rattle.evr0_columns.specs.Form.{each}
use Rattle.evr0_columns.specs.Layout.{Item, in_bytes, in_groups, Record, field, fields, by_column, Table, Tables, tables}
use Rattle.evr0_columns.proofs.SectionRead.{EachAt, no_more, and_more, StandAll}
use Rattle.columns_put.specs.Places.{after_field, after_fields, Inside, behind_moved, others_moved, tables_moved}
use Rattle.columns_put.proofs.PlacesLaws.{after_append}
use Rattle.columns_put.proofs.FormPlaces.{field_left, field_moved_lem, fields_move}

module _ (end : ℕ) (p : List ℕ) where
  -- the fields that stand in each record behind others
  data EachBehind (before is : List Item) : List ℕ → List (Record is) → Type 0 where
    nil : EachBehind before is [] []
    cons : {s : ℕ} {starts : List ℕ} {r : Record is} {rs : List (Record is)} (rest : List ℕ) → after_fields before p s ≤ length p
        → (fields in_bytes is).get end (drop (after_fields before p s) p) ≡ ok (record { value = r; rest = rest })
        → EachBehind before is starts rs → EachBehind before is (s ∷ starts) (r ∷ rs)

  all_behind : {is : List Item} {starts : List ℕ} {rs : List (Record is)} → EachAt end p is starts rs → EachBehind [] is starts rs
  all_behind no_more = nil
  all_behind (and_more next h e more) = cons (drop next p) h e (all_behind more)

  -- the first of them is a column
  first_moved : {before : List Item} {i : Item} {is : List Item} {starts : List ℕ} {rs : List (Record (i ∷ is))} → EachBehind before (i ∷ is) starts rs
      → each (field in_groups i).put (map (λ r. r.0) rs) ≡ behind_moved before i p starts
  unfolding each fields
  first_moved nil = refl
  first_moved {before} {i} {is} (cons {s = s} rest h e more) =
      let (a, f, k) = bind_ok ((field in_bytes i).get end (drop (after_fields before p s) p)) _ e in
      let (b, f1, f2) = bind_ok ((fields in_bytes is).get end a.rest) _ k in
      let v = ap (λ (g : Read (Record (i ∷ is))). (field in_groups i).put g.value.0) (sym (ok_same f2)) in
      ap₂ ◌++◌ (v ∙ field_moved_lem end p (after_fields before p s) i f) (first_moved more)

  -- the others stand behind it
  others_behind : {before : List Item} {i : Item} {is : List Item} {starts : List ℕ} {rs : List (Record (i ∷ is))} → EachBehind before (i ∷ is) starts rs
      → EachBehind (before ++ (i ∷ [])) is starts (map (λ r. r.1) rs)
  unfolding fields
  others_behind nil = nil
  others_behind {before} {i} {is} (cons {s = s} {r = r} rest h e more) =
      let (a, f, k) = bind_ok ((field in_bytes i).get end (drop (after_fields before p s) p)) _ e in
      let (b, f1, f2) = bind_ok ((fields in_bytes is).get end a.rest) _ k in
      let l = field_left end p (after_fields before p s) h i a f in
      let place = after_append before (i ∷ []) p s in
      let v = ap (λ (g : Read (Record (i ∷ is))). g.value.1) (ok_same f2) in
      let q : (fields in_bytes is).get end (drop (after_field i p (after_fields before p s)) p) ≡ ok b = rw (← l.rest) f1 in
      cons {s = s} {r = r.1} b.rest (rw place l.within)
      (rw place (q ∙ ap (λ (w : Record is). ok (record { value = w; rest = b.rest })) v)) (others_behind more)

  columns_moved : (n : ℕ) (is : List Item) {before : List Item} {starts : List ℕ} {rs : List (Record is)} → EachBehind before is starts rs
      → (by_column in_groups n is).put rs ≡ others_moved before is p starts
  unfolding by_column others_moved
  columns_moved n [] x = refl
  columns_moved n (i ∷ is) x = ap₂ ◌++◌ (first_moved x) (columns_moved n is (others_behind x))

  -- table by table
  pub tables_moved_lem : (ts : List Table) (starts : List (List ℕ)) (v : Tables ts) → StandAll end p ts starts v
      → (tables (by_column in_groups) ts).put v ≡ tables_moved ts p starts
  unfolding tables
  tables_moved_lem [] starts v x = refl
  tables_moved_lem (t ∷ ts) [] v x = absurd x
  tables_moved_lem (t ∷ ts) (s ∷ starts) v x =
      ap₂ ◌++◌ (columns_moved t.count t.items (all_behind x.0)) (tables_moved_lem ts starts v.1 x.1)

  -- and each record lies within
  pub each_inside : {is : List Item} {starts : List ℕ} {rs : List (Record is)} → EachAt end p is starts rs → Inside p is starts
  each_inside no_more = λ i h. absurd (omega arith)
  each_inside {is} (and_more {at = at} {places = places} next h e more) = λ i l. go i l (each_inside more)
    where
      go : (i : ℕ) → i < length (at ∷ places) → Inside p is places → after_fields is p (get_or (at ∷ places) i 0) ≤ length p
      go zero l later = (fields_move end p is at h _ e).within
      go (suc i) l later = later i (omega arith)
