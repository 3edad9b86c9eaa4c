-- Laws of a field, over its width.
use mathlib.Core.Path.{◌≡◌, refl}
use Prim.Native.Nat.{ℕ, zero, suc, ◌+◌, ◌-◌, ◌*◌, ◌^◌, ◌≤◌, ◌<◌}
use native.Mathlib.Omega.{arith}
use native.Mathlib.Nat.{add_assoc, pow-succ'}
use mathlib.Core.List.{List}
use mathlib.Core.Bool.{Bool, true, false, cond}
use lib.Dec.{leb}
use lib.ListN.{length, get_or, take, drop, length-take}
use lib.Seq.{get_or-drop, get_or-take}
use borrow.Author.Tests.{le-leb, lt-leb, leb-true, leb-false}
use Rattle.local_format.specs.Out.{Out, ok, refuse}
use Rattle.local_format.specs.Field.{whole, cut, Got, le, field_at, or_cut, field}
use Rattle.local_format.proofs.OutLaws.{never}

-- ---- A reader's answer
module _ (width : ℕ) (s : List ℕ) (at : ℕ) where
  pub is_cut : length s - at < width → cut ≡ field_at width s at
  unfolding field_at
  is_cut h = simp (lt-leb (at + width) (length s) (omega arith))

  pub is_whole : (v : ℕ) → width ≤ length s - at → 0 < width → v ≡ le width s at
      → whole (record { value = v; next = at + width }) ≡ field_at width s at
  unfolding field_at
  is_whole v h p e = simp (le-leb (at + width) (length s) (omega arith), e)

module _ (s : List ℕ) (at : ℕ) where
  pub le_1 : get_or s at 0 ≡ le 1 s at
  unfolding le
  le_1 = omega arith

  pub le_2 : get_or s at 0 + 256 * get_or s (at + 1) 0 ≡ le 2 s at
  unfolding le
  le_2 = omega arith

  pub le_4 : get_or s at 0 + 256 * (get_or s (at + 1) 0 + 256 * (get_or s (at + 2) 0 + 256 * get_or s (at + 3) 0)) ≡ le 4 s at
  unfolding le
  le_4 = simp add_assoc (omega arith)

  pub le_8 : get_or s at 0 + 256 * (get_or s (at + 1) 0 + 256 * (get_or s (at + 2) 0 + 256 * (get_or s (at + 3) 0
      + 256 * (get_or s (at + 4) 0 + 256 * (get_or s (at + 5) 0 + 256 * (get_or s (at + 6) 0 + 256 * get_or s (at + 7) 0)))))) ≡ le 8 s at
  unfolding le
  le_8 = simp add_assoc (omega arith)

-- ---- What an answer says
module _ (number width : ℕ) (s : List ℕ) (at : ℕ) where
  -- whatever holds of a field that is there and of one that is cut
  by_end : (P : Out Got → Type 0) → (at + width ≤ length s → P (ok (record { value = le width s at; next = at + width })))
      → (length s < at + width → P (refuse number at)) → P (field number width s at)
  unfolding field_at
  by_end P in-it past = go (leb (at + width) (length s)) refl
    where
      go : (t : Bool) → leb (at + width) (length s) ≡ t
          → P (or_cut number at (cond t (whole (record { value = le width s at; next = at + width })) cut))
      go true h = in-it (leb-true (at + width) (length s) h)
      go false h = past (leb-false (at + width) (length s) h)

  pub field_ok : {g : Got} → field number width s at ≡ ok g → (g.next ≡ at + width) × (at + width ≤ length s) × (g.value ≡ le width s at)
  field_ok {g} =
      by_end (λ x. x ≡ ok g → (g.next ≡ at + width) × (at + width ≤ length s) × (g.value ≡ le width s at)) (λ h k. (cc, h, cc))
      (λ h k. absurd (never k))

-- a field that is there
pub field_there : (number width : ℕ) (s : List ℕ) (at : ℕ) → at + width ≤ length s
    → field number width s at ≡ ok (record { value = le width s at; next = at + width })
unfolding field_at
field_there number width s at h = simp (le-leb (at + width) (length s) h)

-- a field's value is below 256 to its width
pub le_below : (width : ℕ) (s : List ℕ) → ((i : ℕ) → get_or s i 0 < 256) → (at : ℕ) → le width s at < 256 ^ width
unfolding le
le_below zero s h at = omega arith
le_below (suc width) s h at = rw (pow-succ' 256 width) (omega (arith, h at, le_below width s h (at + 1)))

-- ---- A field of a part of a list
pub le_drop : (width : ℕ) (s : List ℕ) (k at : ℕ) → le width (drop k s) at ≡ le width s (k + at)
unfolding le
le_drop zero s k at = refl
le_drop (suc width) s k at =
    let e : k + (at + 1) ≡ k + at + 1 = omega arith in
    rw (get_or-drop k s at 0, le_drop width s k (at + 1), e)

pub le_take : (width : ℕ) (s : List ℕ) (n at : ℕ) → at + width ≤ n → le width (take n s) at ≡ le width s at
unfolding le
le_take zero s n at h = refl
le_take (suc width) s n at h =
    let e : at < n = omega arith in
    let f : at + 1 + width ≤ n = omega arith in
    rw (get_or-take n s at 0 e, le_take width s n (at + 1) f)

-- a field that ends within the first bytes
pub field_take : (width : ℕ) (s : List ℕ) (n at : ℕ) → at + width ≤ n → field_at width (take n s) at ≡ field_at width s at
unfolding field_at
field_take width s n at h = go (leb (at + width) (length s)) refl
  where
    go : (t : Bool) → leb (at + width) (length s) ≡ t
        → cond (leb (at + width) (length (take n s))) (whole (record { value = le width (take n s) at; next = at + width })) cut
        ≡ cond t (whole (record { value = le width s at; next = at + width })) cut
    go true e =
        let l : at + width ≤ length s = leb-true (at + width) (length s) e in
        let m : at + width ≤ length (take n s) = rw length-take (omega arith) in
        rw (le-leb (at + width) (length (take n s)) m, le_take width s n at h)
    go false e =
        let l : length s < at + width = leb-false (at + width) (length s) e in
        let m : length (take n s) < at + width = rw length-take (omega arith) in
        rw (lt-leb (at + width) (length (take n s)) m)
