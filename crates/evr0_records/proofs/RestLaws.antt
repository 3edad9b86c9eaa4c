-- What follows a proof's rule: the fields of its 24 bytes where they are all there, else the first field that is cut, field by field.
use Prim.Native.Nat.{ℕ, ◌+◌, ◌-◌, ◌*◌, ◌/◌, ◌≤◌, ◌<◌}
use mathlib.Core.Path.{◌≡◌, refl, ap, ◌∙◌}
use mathlib.Core.List.{List}
use native.Mathlib.Omega.{arith}
use lib.Dec.{eqb, leb}
use mathlib.Core.Bool.{Bool, true, false}
use lib.ListN.{length, get_or, drop, length-drop}
use Rattle.std.specs.Array.{IsFirstChunk}
use borrow.Author.Tests.{le-leb, lt-leb, leb-true, leb-false, eq-eqb, ne_eqb}
use Rattle.local_format.specs.Out.{Out, ok, refuse, check, ◌>>=◌, ◌>>◌}
use Rattle.local_format.specs.Field.{Got, whole, le, field_at}
use Rattle.local_format.specs.Text.{Span}
use Rattle.local_format.proofs.FieldLaws.{le_1}
use Rattle.evr0_fields.proofs.PartLaws.{by_field, in_part, field_is, field_in_whole}
use Rattle.evr0_section.specs.Rows.{Sized}
use Rattle.evr0_section.specs.Proof.{ProofRecord, rest_of, zeros_at}

-- ---- The fields after the rule
module _ (s : List ℕ) (number proposition : ℕ) (rule : Span) where
  -- the answer of these fields
  abbrev answer : ℕ → ℕ → ℕ → ℕ → ℕ → ℕ → ℕ → Out (Sized ProofRecord)
  answer authority first_witness witness_count first_parent parent_count operation size =
      ok (record {
        item =
            record {
              number = number;
              proposition = proposition;
              rule = rule;
              authority = authority;
              first_witness = first_witness;
              witness_count = witness_count;
              first_parent = first_parent;
              parent_count = parent_count;
              operation = operation;
            };
        size = size;
      })

  -- by how many bytes follow the rule: the first field that is cut, or all but the zeros
  by_left : {x : Out (Sized ProofRecord)}
      → (rule.next + 20 < length s
      → x ≡ (zeros_at s (rule.next + 21) >>= answer (le 4 s rule.next) (le 4 s (rule.next + 4)) (le 4 s (rule.next + 8))
      (le 4 s (rule.next + 12)) (le 4 s (rule.next + 16)) (get_or s (rule.next + 20) 0)))
      → (length s ≤ rule.next + 20 → x ≡ refuse 5 (rule.next + (length s - rule.next) / 4 * 4)) → x ≡ rest_of s number proposition rule
  by_left {x} there short =
      let a = rule.next in
      let e8 : a + 4 + 4 ≡ a + 8 = omega arith in
      let e12 : a + 8 + 4 ≡ a + 12 = omega arith in
      let e16 : a + 12 + 4 ≡ a + 16 = omega arith in
      let e20 : a + 16 + 4 ≡ a + 20 = omega arith in
      let e21 : a + 20 + 1 ≡ a + 21 = omega arith in
      by_field 4 s a _ (λ h0. by_field 4 s (a + 4) _ (λ h1. rw e8 (by_field 4 s (a + 8) _ (λ h2. rw e12 (by_field 4 s (a + 12) _ (λ h3.
      rw e16 (by_field 4 s (a + 16) _ (λ h4. rw e20 (by_field 1 s (a + 20) _ (λ h5. rw (e21, ← le_1 s (a + 20)) (there (omega arith)))
      (λ l. at_cut (a + 20) (omega arith) (omega arith)))) (λ l. at_cut (a + 16) (omega arith) (omega arith))))
      (λ l. at_cut (a + 12) (omega arith) (omega arith)))) (λ l. at_cut (a + 8) (omega arith) (omega arith))))
      (λ l. at_cut (a + 4) (omega arith) (omega arith))) (λ l. at_cut a (omega arith) (omega arith))
    where
      at_cut : (at : ℕ) → length s ≤ rule.next + 20 → rule.next + (length s - rule.next) / 4 * 4 ≡ at → x ≡ refuse 5 at
      at_cut at h e = short h ∙ ap (refuse 5) e

  pub first_cut : length s - rule.next ≤ 20 → refuse 5 (rule.next + (length s - rule.next) / 4 * 4) ≡ rest_of s number proposition rule
  first_cut h = by_left (λ k. absurd (omega arith)) (λ k. refl)

  pub zeros_cut : 20 < length s - rule.next → length s - rule.next < 24 → refuse 5 (rule.next + 21) ≡ rest_of s number proposition rule
  unfolding zeros_at field_at
  zeros_cut h k = by_left (λ l. simp (lt-leb (rule.next + 21 + 3) (length s) (omega arith))) (λ l. absurd (omega arith))

  -- ---- Where the 24 bytes are there, the fields are read in the part that they are: the operation and three zeros are one number of four bytes
  module _ {rest part : List ℕ} (e : rest ≡ drop rule.next s) (c : IsFirstChunk rest part 24) (fits : (i : ℕ) → get_or s i 0 < 256)
      {a b d f g o : Got}
      (fa : whole a ≡ field_at 4 part 0) (fb : whole b ≡ field_at 4 part a.next) (fd : whole d ≡ field_at 4 part b.next)
      (ff : whole f ≡ field_at 4 part d.next) (fg : whole g ≡ field_at 4 part f.next) (fo : whole o ≡ field_at 4 part g.next)
    where
      all : rule.next + 24 ≤ length s
      all =
          let l : length rest ≡ length s - rule.next = rw (e, length-drop) in
          let h = c.enough in
          omega arith

      at_20 : g.next ≡ 20
      at_20 =
          omega (arith, (field_is 0 c fa).0, (field_is a.next c fb).0, (field_is b.next c fd).0, (field_is d.next c ff).0, (field_is f.next c fg).0)

      at_24 : o.next ≡ 24
      at_24 = omega (arith, at_20, (field_is g.next c fo).0)

      four : o.value ≡ get_or s (rule.next + 20) 0 + 256 * le 3 s (rule.next + 21)
      unfolding le
      four =
          let k : rule.next + 20 + 1 ≡ rule.next + 21 = omega arith in
          rw ((field_is g.next c fo).2, at_20, in_part s rule.next 20 e c (omega arith), k)

      -- the zeros are what is left to read
      by_zeros : {x : Out (Sized ProofRecord)}
          → x ≡ ((check (eqb (le 3 s (rule.next + 21)) 0) 9 (rule.next + 24) >> ok (rule.next + 24))
          >>= answer a.value b.value d.value f.value g.value (get_or s (rule.next + 20) 0)) → x ≡ rest_of s number proposition rule
      unfolding zeros_at field_at
      by_zeros h =
          let m : rule.next + 0 ≡ rule.next = omega arith in
          let y : rule.next + 20 + 1 ≡ rule.next + 21 = omega arith in
          let z : rule.next + 21 + 3 ≡ rule.next + 24 = omega arith in
          let i : rule.next + 21 ≤ length s = let w = all in omega arith in
          rw (
            rw m at (field_in_whole s rule.next 0 e c fa),
            field_in_whole s rule.next a.next e c fb,
            field_in_whole s rule.next b.next e c fd,
            field_in_whole s rule.next d.next e c ff,
            field_in_whole s rule.next f.next e c fg,
            at_20,
            y,
            le-leb (rule.next + 21) (length s) i,
            ← le_1 s (rule.next + 20),
            z,
            le-leb (rule.next + 24) (length s) all,
          )
          h

      pub rest_there : (check (leb o.value 255) 9 (rule.next + o.next)
          >> answer a.value b.value d.value f.value g.value o.value (rule.next + o.next)) ≡ rest_of s number proposition rule
      rest_there = rw at_24 (go (leb o.value 255) refl)
        where
          go : (t : Bool) → leb o.value 255 ≡ t → (check t 9 (rule.next + 24)
              >> answer a.value b.value d.value f.value g.value o.value (rule.next + 24)) ≡ rest_of s number proposition rule
          go true h =
              let l : o.value ≤ 255 = leb-true o.value 255 h in
              let n : le 3 s (rule.next + 21) ≡ 0 = omega (arith, four) in
              let v : o.value ≡ get_or s (rule.next + 20) 0 = omega (arith, four) in
              by_zeros (rw (eq-eqb (le 3 s (rule.next + 21)) 0 n, v))
          go false h =
              let l : 255 < o.value = leb-false o.value 255 h in
              let n : le 3 s (rule.next + 21) ≡ 0 → ⊥ = λ z. omega (arith, four, fits (rule.next + 20)) in
              by_zeros (rw (ne_eqb (le 3 s (rule.next + 21)) 0 n))
