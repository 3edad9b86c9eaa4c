-- Laws of places: fields after other fields, and each field at or after the start.
use Prim.Native.Nat.{ℕ, ◌≤◌}
use mathlib.Core.Path.{◌≡◌, refl, sym, ap, ◌∙◌}
use mathlib.Core.List.{List, [], ◌∷◌, ◌++◌}
use native.Mathlib.Nat.{le_refl, le_trans}
use native.Mathlib.Omega.{arith}
use lib.ListN.{get_or, take, drop, take-append-drop}
use Rattle.evr0_columns.specs.Layout.{Item, raw, whole, text}
use Rattle.columns_put.specs.Places.{after_field, after_fields, Inside}
use Rattle.columns_put.specs.Maps.{place_of, Reach}
use Rattle.columns_put.specs.declared.path.Path.{Path}

pub after_append : (is js : List Item) (c : List ℕ) (at : ℕ) → after_fields (is ++ js) c at ≡ after_fields js c (after_fields is c at)
after_append [] js c at = refl
after_append (i ∷ is) js c at = after_append is js c (after_field i c at)

field_grows : (i : Item) (c : List ℕ) (at : ℕ) → at ≤ after_field i c at
field_grows (raw n) c at = omega arith
field_grows (whole width) c at = omega arith
field_grows text c at = omega arith

pub after_grows : (is : List Item) (c : List ℕ) (at : ℕ) → at ≤ after_fields is c at
after_grows [] c at = le_refl at
after_grows (i ∷ is) c at = le_trans (field_grows i c at) (after_grows is c (after_field i c at))

-- a field stands within its record
pub before_end : (j : ℕ) (is : List Item) (c : List ℕ) (at : ℕ) → after_fields (take j is) c at ≤ after_fields is c at
before_end j is c at =
    let e : after_fields is c at ≡ after_fields (drop j is) c (after_fields (take j is) c at) =
    ap (λ (l : List Item). after_fields l c at) (sym (take-append-drop j is)) ∙ after_append (take j is) (drop j is) c at in
    rw e (after_grows (drop j is) c (after_fields (take j is) c at))

pub reached : (c : List ℕ) (is : List Item) (starts : List ℕ) (j : ℕ) (path : Path) → Inside c is starts
    → ((b : List ℕ) (s : ℕ) → place_of b path s ≡ after_fields (take j is) b s) → Reach c path starts
reached c is starts j path inside same =
    λ i h. rw (same c (get_or starts i 0)) (le_trans (before_end j is c (get_or starts i 0)) (inside i h))
