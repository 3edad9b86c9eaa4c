-- What a section's form reads at a place: the place after it, and what the columns hold of it. Field by field, whatever the file's end is.
use Prim.Native.Nat.{ℕ, ◌+◌, ◌≤◌}
use mathlib.Core.Path.{◌≡◌, refl, sym, ap, ap₂, ◌∙◌}
use mathlib.Core.Bool.{Bool, true, false, cond}
use mathlib.Core.List.{List, [], ◌∷◌, ◌++◌}
use native.Mathlib.Omega.{arith}
use lib.Dec.{leb}
use lib.ListN.{length, take, drop, length-drop}
use lib.Seq.{drop-drop}
use borrow.Author.Tests.{leb-true}
use Rattle.local_format.specs.Out.{ok, refuse}
use Rattle.local_format.specs.Field.{le}
use Rattle.local_format.proofs.OutLaws.{never, ok_same, on_ok, bind_ok}
use Rattle.local_format.proofs.FieldLaws.{le_drop, le_take}
use Rattle.groups.specs.Groups.{Read}
use Rattle.evr0_columns.specs.Layout.{Item, raw, whole, text, Of, copied, in_bytes, in_groups, Record, field, fields}
use Rattle.column_fields.specs.Moved.{written, field_moved}
use Rattle.columns_put.specs.Places.{after_field, after_fields, fields_moved}

module _ (end : ℕ) (c : List ℕ) (at : ℕ) (inside : at ≤ length c) where
  -- what is read at `at` is this, and ends within c
  record Ends {A : Type 0} (value : A) (next : ℕ) (g : Read A) : Type 0 where
    is : record { value = value; rest = drop next c } ≡ g
    within : next ≤ length c

  copied_ends : (n : ℕ) {g : Read (List ℕ)} → (copied n).get end (drop at c) ≡ ok g → Ends (take n (drop at c)) (at + n) g
  unfolding copied
  copied_ends n {g} e = go (leb n (length (drop at c))) refl e
    where
      go : (t : Bool) → leb n (length (drop at c)) ≡ t
          → cond t (ok (record { value = take n (drop at c); rest = drop n (drop at c) })) (refuse 76 end) ≡ ok g → Ends (take n (drop at c)) (at + n) g
      go true t e =
          record {
            is = ap (λ (s : List ℕ). record { value = take n (drop at c); rest = s }) (sym (drop-drop n at c)) ∙ ok_same e;
            within = omega (arith, leb-true n (length (drop at c)) t, length-drop at c);
          }
      go false t e = absurd (never e)

  number_ends : (width : ℕ) {g : Read ℕ} → (in_bytes width).get end (drop at c) ≡ ok g → Ends (le width c at) (at + width) g
  unfolding in_bytes
  number_ends width {g} e =
      let (b, f, k) = bind_ok ((copied width).get end (drop at c)) _ e in
      let x = copied_ends width f in
      let z : at + 0 ≡ at = omega arith in
      let v : le width (take width (drop at c)) 0 ≡ le width c at = le_take width (drop at c) width 0 (omega arith) ∙ le_drop width c at 0 ∙ rw z in
      record {
        is = ap (λ (n : ℕ). record { value = n; rest = drop (at + width) c }) (sym v)
            ∙ ap (λ (b : Read (List ℕ)). record { value = le width b.value 0; rest = b.rest }) x.is ∙ ok_same k;
        within = x.within;
      }

-- ---- The place after a field
module _ (end : ℕ) (c : List ℕ) (at : ℕ) (inside : at ≤ length c) where
  -- what is left stands at this place, which is within c
  pub record Left {A : Type 0} (next : ℕ) (g : Read A) : Type 0 where
    pub rest : g.rest ≡ drop next c
    pub within : next ≤ length c

  left : {A : Type 0} {value : A} {next : ℕ} {g : Read A} → Ends end c at inside value next g → Left next g
  left x = record { rest = ap (λ g. g.rest) (sym x.is); within = x.within }

  pub field_left : (i : Item) (g : Read (Of i)) → (field in_bytes i).get end (drop at c) ≡ ok g → Left (after_field i c at) g
  unfolding field
  field_left (raw n) g e = left (copied_ends end c at inside n e)
  field_left (whole width) g e = left (number_ends end c at inside width e)
  field_left text g e =
      let (p, f, k) = bind_ok _ _ e in
      let (n, f1, f2) = bind_ok ((in_bytes 2).get end (drop at c)) _ f in
      let (b, f3, f4) = bind_ok ((copied n.value).get end n.rest) _ f2 in
      let x = number_ends end c at inside 2 f1 in
      let q : (copied (le 2 c at)).get end (drop (at + 2) c) ≡ ok b = rw (ap (λ g. g.value) x.is, ap (λ g. g.rest) x.is) f3 in
      let y = copied_ends end c (at + 2) x.within (le 2 c at) q in
      record {
        rest = ap (λ g. g.rest) (sym (ok_same k)) ∙ ap (λ g. g.rest) (sym (ok_same f4)) ∙ ap (λ g. g.rest) (sym y.is);
        within = y.within;
      }

-- ---- A field that is read is read whatever the end of the file is
module _ (end other : ℕ) (s : List ℕ) where
  copied_any : (n : ℕ) {g : Read (List ℕ)} → (copied n).get end s ≡ ok g → (copied n).get other s ≡ ok g
  unfolding copied
  copied_any n {g} e = go (leb n (length s)) (record { value = take n s; rest = drop n s }) e
    where
      go : (t : Bool) (x : Read (List ℕ)) → cond t (ok x) (refuse 76 end) ≡ ok g → cond t (ok x) (refuse 76 other) ≡ ok g
      go true x e = e
      go false x e = absurd (never e)

  number_any : (width : ℕ) {g : Read ℕ} → (in_bytes width).get end s ≡ ok g → (in_bytes width).get other s ≡ ok g
  unfolding in_bytes
  number_any width e = let (b, f, k) = bind_ok ((copied width).get end s) _ e in on_ok _ (copied_any width f) ∙ k

field_any : (end other : ℕ) (s : List ℕ) (i : Item) {g : Read (Of i)} → (field in_bytes i).get end s ≡ ok g → (field in_bytes i).get other s ≡ ok g
unfolding field
field_any end other s (raw n) e = copied_any end other s n e
field_any end other s (whole width) e = number_any end other s width e
field_any end other s text e =
    let (p, f, k) = bind_ok _ _ e in
    let (n, f1, f2) = bind_ok ((in_bytes 2).get end s) _ f in
    let (b, f3, f4) = bind_ok ((copied n.value).get end n.rest) _ f2 in
    on_ok _ (on_ok _ (number_any end other s 2 f1) ∙ on_ok _ (copied_any end other n.rest n.value f3) ∙ f4) ∙ k

-- so it is what a column holds of it
pub field_moved_lem : (end : ℕ) (c : List ℕ) (at : ℕ) (i : Item) {g : Read (Of i)} → (field in_bytes i).get end (drop at c) ≡ ok g
    → (field in_groups i).put g.value ≡ field_moved i c at
unfolding field_moved
field_moved_lem end c at i e = sym (ap (written (field in_groups i)) (field_any end (length c) (drop at c) i e))

-- ---- Records
module _ (end : ℕ) (c : List ℕ) where
  pub record Moves (is : List Item) (at : ℕ) (g : Read (Record is)) : Type 0 where
    pub within : after_fields is c at ≤ length c
    pub moved : (fields in_groups is).put g.value ≡ fields_moved is c at

  pub fields_move : (is : List Item) (at : ℕ) → at ≤ length c → (g : Read (Record is)) → (fields in_bytes is).get end (drop at c) ≡ ok g → Moves is at g
  unfolding fields
  fields_move [] at h g e = record { within = h; moved = refl }
  fields_move (i ∷ is) at h g e =
      let (a, f, k) = bind_ok ((field in_bytes i).get end (drop at c)) _ e in
      let (b, f1, f2) = bind_ok ((fields in_bytes is).get end a.rest) _ k in
      let l = field_left end c at h i a f in
      let m = fields_move is (after_field i c at) l.within b (rw (← l.rest) f1) in
      record {
        within = m.within;
        moved = ap (λ (g : Read (Record (i ∷ is))). (fields in_groups (i ∷ is)).put g.value) (sym (ok_same f2))
            ∙ ap₂ ◌++◌ (field_moved_lem end c at i f) m.moved;
      }
