-- A number in a part of a list is there, and is the one at its place in the whole; and a reader that starts with a field, by whether the field is there.
use Prim.Native.Nat.{ℕ, ◌+◌, ◌-◌, ◌≤◌, ◌<◌}
use mathlib.Core.Path.{◌≡◌, refl, sym, ap}
use mathlib.Core.Bool.{Bool, true, false, cond}
use mathlib.Core.List.{List}
use native.Mathlib.Omega.{arith}
use lib.Dec.{leb}
use lib.ListN.{length, drop, length-take, length-drop}
use borrow.Author.Tests.{le-leb, leb-true, leb-false}
use Rattle.local_format.specs.Out.{Out, ok, refuse, ◌>>=◌}
use Rattle.local_format.specs.Field.{Got, whole, cut, le, field_at, or_cut}
use Rattle.local_format.specs.Text.{section_field}
use Rattle.local_format.proofs.OutLaws.{never}
use Rattle.local_format.proofs.FieldLaws.{field_ok, field_there, le_drop, le_take}
use Rattle.std.specs.Array.{IsFirstChunk}

-- a reader that starts with a field, by whether the field is there
pub by_field : {A : Type 0} (width : ℕ) (s : List ℕ) (at : ℕ) (f : Got → Out A) {x : Out A}
    → (at + width ≤ length s → x ≡ f (record { value = le width s at; next = at + width })) → (length s < at + width → x ≡ refuse 5 at)
    → x ≡ (section_field width s at >>= f)
unfolding field_at
by_field width s at f {x} h k = go (leb (at + width) (length s)) refl
  where
    go : (t : Bool) → leb (at + width) (length s) ≡ t
        → x ≡ (or_cut 5 at (cond t (whole (record { value = le width s at; next = at + width })) cut) >>= f)
    go true e = h (leb-true (at + width) (length s) e)
    go false e = k (leb-false (at + width) (length s) e)

-- ---- A part that is the first bytes of what is left of a list from a place on
module _ (k : ℕ) {rest part : List ℕ} {size : ℕ} (c : IsFirstChunk rest part size) where
  length_part : length part ≡ size
  length_part = let h = c.enough in rw (c.same, length-take) (omega arith)

  -- a number that ends in the part is not cut
  pub never_cut : cut ≡ field_at 4 part k → k + 4 ≤ size → ⊥
  unfolding field_at
  never_cut f h = never (ap (or_cut 5 k) (rw (length_part, le-leb (k + 4) size h) at f))

  -- what a number that was read is
  pub field_is : {g : Got} → whole g ≡ field_at 4 part k → (g.next ≡ k + 4) × (k + 4 ≤ size) × (g.value ≡ le 4 part k)
  field_is f = let h = field_ok 5 4 part k (ap (or_cut 5 k) (sym f)) in (h.0, rw length_part at h.1, h.2)

module _ (s : List ℕ) (at k : ℕ) {rest part : List ℕ} {size : ℕ} (e : rest ≡ drop at s) (c : IsFirstChunk rest part size) where
  pub in_part : k + 4 ≤ size → le 4 part k ≡ le 4 s (at + k)
  in_part h = rw (c.same, le_take 4 rest size k h, e, le_drop 4 s at k)

  module _ {g : Got} (f : whole g ≡ field_at 4 part k) where
    -- the place after a number that was read in the part is in the whole,
    pub next_within : at + g.next ≤ length s
    next_within =
        let l : length rest ≡ length s - at = rw (e, length-drop) in
        let h = c.enough in
        let t = field_is k c f in
        omega (arith, t.0, t.1)

    -- and the number is the one at its place in the whole
    pub field_in_whole : section_field 4 s (at + k) ≡ ok (record { value = g.value; next = at + g.next })
    field_in_whole =
        let t = field_is k c f in
        let n : at + g.next ≡ at + k + 4 = omega (arith, t.0) in
        let l = next_within in
        rw (n, t.2, in_part t.1) (field_there 5 4 s (at + k) (omega (arith, n)))
