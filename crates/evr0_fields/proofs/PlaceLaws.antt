-- What is left of a list from a place on says whether a field is there: reserved bytes and digests.
use Prim.Native.Nat.{ℕ, zero, suc, ◌+◌, ◌*◌, ◌-◌, ◌≤◌, ◌<◌}
use mathlib.Core.Path.{◌≡◌, refl}
use mathlib.Core.List.{List, [], ◌∷◌}
use native.Mathlib.Omega.{arith}
use native.Mathlib.Nat.{add-zero}
use lib.ListN.{length, drop, length-drop, length-take}
use lib.Pointwise.{pointwise}
use borrow.Author.Tests.{ne_eqb}
use lib.Dec.{eqb}
use Rattle.std.specs.Array.{IsFirstChunk}
use Rattle.local_format.specs.Out.{ok, refuse, check, ◌>>◌}
use Rattle.local_format.specs.Field.{whole, cut, le, field_at}
use Rattle.local_format.specs.Text.{bytes_at, section_field}
use Rattle.local_format.proofs.OutLaws.{ok_same, bind_ok}
use Rattle.local_format.proofs.FieldLaws.{is_cut, is_whole, le_drop, le_take, field_ok}
use Rattle.evr0_section.specs.Head.{Digest, digest_at}
use Rattle.evr0_section.specs.Proof.{zeros_at}

-- three bytes are zeros where their number is
three_zeros : (r : List ℕ) → length r ≡ 3 → eqb (le 3 r 0) 0 ≡ pointwise eqb r (0 ∷ 0 ∷ 0 ∷ [])
unfolding le
three_zeros (a ∷ b ∷ c ∷ []) h = go a b c
  where
    go : (a b c : ℕ) → eqb (a + 256 * (b + 256 * (c + 256 * 0))) 0 ≡ pointwise eqb (a ∷ b ∷ c ∷ []) (0 ∷ 0 ∷ 0 ∷ [])
    go zero zero zero = refl
    go zero zero (suc c) = rw (ne_eqb (0 + 256 * (0 + 256 * (suc c + 256 * 0))) 0 (omega arith), ne_eqb (suc c) 0 (omega arith))
    go zero (suc b) c = rw (ne_eqb (0 + 256 * (suc b + 256 * (c + 256 * 0))) 0 (omega arith), ne_eqb (suc b) 0 (omega arith))
    go (suc a) b c = rw (ne_eqb (suc a + 256 * (b + 256 * (c + 256 * 0))) 0 (omega arith), ne_eqb (suc a) 0 (omega arith))
three_zeros [] h = absurd (omega arith)
three_zeros (a ∷ []) h = absurd (omega arith)
three_zeros (a ∷ b ∷ []) h = absurd (omega arith)
three_zeros (a ∷ b ∷ c ∷ d ∷ r) h = absurd (omega arith)

module _ (s : List ℕ) {rest : List ℕ} (at : ℕ) (e : rest ≡ drop at s) where
  left : length rest ≡ length s - at
  left = rw (e, length-drop)

  module _ (width : ℕ) where
    cut_at : length rest < width → cut ≡ field_at width s at
    cut_at h = is_cut width s at (omega (arith, left))

    there : width ≤ length rest → 0 < width → whole (record { value = le width s at; next = at + width }) ≡ field_at width s at
    there h p = is_whole width s at _ (omega (arith, left)) p refl

  pub zeros_cut : length rest < 3 → refuse 5 at ≡ zeros_at s at
  unfolding zeros_at
  zeros_cut h = rw (← cut_at 3 h)

  pub zeros_there : {three : List ℕ} → IsFirstChunk rest three 3
      → (check (pointwise eqb three (0 ∷ 0 ∷ 0 ∷ [])) 9 (at + 3) >> ok (at + 3)) ≡ zeros_at s at
  unfolding zeros_at
  zeros_there {three} h =
      let value : le 3 three 0 ≡ le 3 s at =
      rw (h.same, le_take 3 rest 3 0 (omega arith), e, le_drop 3 s at 0, add-zero) in
      let size : length three ≡ 3 = rw (h.same, length-take) (omega (arith, h.enough)) in
      rw (← there 3 h.enough (omega arith), ← value, three_zeros three size)

  pub digest_cut : length rest < 32 → refuse 5 at ≡ digest_at s at
  unfolding digest_at
  digest_cut h = rw (← cut_at 32 h)

  pub digest_there : {bytes : List ℕ} → IsFirstChunk rest bytes 32 → ok (record { bytes = bytes; next = at + 32 }) ≡ digest_at s at
  unfolding digest_at
  digest_there h = rw (← there 32 h.enough (omega arith), h.same, e)

-- ---- Where a field that was read ends
module _ (s : List ℕ) (at : ℕ) where
  pub digest_ok : {d : Digest} → digest_at s at ≡ ok d → (d.next ≡ at + 32) × (d.next ≤ length s) × (d.bytes ≡ bytes_at s at 32)
  unfolding digest_at
  digest_ok e =
      let (g, f, e1) = bind_ok (section_field 32 s at) _ e in
      let x = field_ok 5 32 s at f in
      rw (← ok_same e1) (x.0, omega arith, refl)
