-- The entries of a payload's tables by their places.
use Prim.Native.Nat.{ℕ, zero, suc, ◌+◌, ◌-◌, ◌*◌, ◌/◌, ◌≤◌, ◌<◌}
use mathlib.Core.Path.{◌≡◌, refl, ap, ◌∙◌}
use mathlib.Core.List.{List, [], ◌∷◌, map}
use native.Mathlib.Nat.{mul-le-mul_left, mul-div_cancel_left}
use native.Mathlib.Omega.{arith}
use mathlib.Core.Bool.{◌&&◌}
use lib.Dec.{eqb}
use lib.ListN.{length, get_or, length-map}
use Rattle.local_format.specs.Field.{le}
use Rattle.local_format.proofs.FieldLaws.{le_1}
use Rattle.derivation.specs.Rule.{Rule}
use Rattle.derivation.specs.Pass.{agrees}
use Rattle.derivation.specs.Section.{Proof, proof_at, witness_at, parent_at, proof_total}
use Rattle.evr0_section.specs.Head.{witness_size}
use Rattle.evr0_pass.specs.View.{Layout, places, after_name, proof_view, width_in, witness_view, view, WitnessesThere}

pub get_or_map_in : {A B : Type 0} (f : A → B) (l : List A) (i : ℕ) (d : A) (e : B) → i < length l → get_or (map f l) i e ≡ f (get_or l i d)
get_or_map_in f [] i d e h = absurd (omega arith)
get_or_map_in f (a ∷ l) zero d e h = refl
get_or_map_in f (a ∷ l) (suc i) d e h = get_or_map_in f l i d e (omega arith)

pub length_places : (size n at : ℕ) → length (places size n at) ≡ n
unfolding places
length_places size zero at = refl
length_places size (suc n) at = ap suc (length_places size n (at + size))

pub get_or_places : (size n at i : ℕ) → i < n → get_or (places size n at) i 0 ≡ at + size * i
unfolding places
get_or_places size zero at i h = absurd (omega arith)
get_or_places size (suc n) at zero h = omega arith
get_or_places size (suc n) at (suc i) h = get_or_places size n (at + size) i (omega arith) ∙ rest
  where
    rest : at + size + size * i ≡ at + size * suc i
    rest = omega arith

pub width_in_lem : (width : ℕ) → width_in (witness_size width) ≡ width
unfolding width_in
width_in_lem width = let e : 76 + 2 * width - 76 ≡ 2 * width = omega arith in ap (λ (n : ℕ). n / 2) e ∙ mul-div_cancel_left width (omega arith)

-- a witness of the table ends within the payload
pub witness_inside : {len : ℕ} (l : Layout) → WitnessesThere len l → (w : ℕ) → w < l.counts.witnesses
    → l.witnesses_at + l.witness_size * w + l.witness_size ≤ len
witness_inside l there w h = omega (arith, there.inside, mul-le-mul_left {m = suc w} {n = l.counts.witnesses} l.witness_size (omega arith))

module _ (rules : List Rule) (p starts : List ℕ) (l : Layout) where
  pub proof_total_lem : proof_total (view rules p starts l) ≡ length starts
  unfolding proof_total view
  proof_total_lem = length-map starts (proof_view rules p)

  pub proof_at_lem : (i : ℕ) → i < length starts → proof_at (view rules p starts l) i ≡ proof_view rules p (get_or starts i 0)
  unfolding proof_at view
  proof_at_lem i h = get_or_map_in (proof_view rules p) starts i 0 _ h

  abbrev pub width : ℕ
  width = width_in l.witness_size

  pub witness_at_lem : (w : ℕ) → w < l.counts.witnesses → witness_at (view rules p starts l) w ≡ witness_view width p (l.witnesses_at + l.witness_size * w)
  unfolding witness_at view
  witness_at_lem w h = get_or_map_in (witness_view width p) (places l.witness_size l.counts.witnesses l.witnesses_at) w 0 _ (rw length_places h)
      ∙ ap (witness_view width p) (get_or_places l.witness_size _ _ w h)

  pub parent_at_lem : (c : ℕ) → c < l.counts.parents → parent_at (view rules p starts l) c ≡ le 4 p (l.parents_at + 4 * c)
  unfolding parent_at view
  parent_at_lem c h = get_or_map_in (le 4 p) (places 4 l.counts.parents l.parents_at) c 0 _ (rw length_places h) ∙ ap (le 4 p) (get_or_places 4 _ _ c h)

  pub agrees_at : (q : Proof) (j : ℕ) → j < length starts
      → agrees (view rules p starts l) q j
      ≡ (eqb (le 4 p (get_or starts j 0 + 4)) q.proposition && eqb (le 4 p (after_name p (get_or starts j 0))) q.authority)
  unfolding agrees proof_view
  agrees_at q j h = rw (proof_at_lem j h)

  -- what stands of a witness at its place
  pub witness_reads : (w at : ℕ) → w < l.counts.witnesses → at ≡ l.witnesses_at + l.witness_size * w
      → ((witness_at (view rules p starts l) w).proposition ≡ le 4 p (at + 4)) × ((witness_at (view rules p starts l) w).polarity ≡ get_or p (at + 8) 0)
  unfolding witness_view
  witness_reads w at h e =
      let is = witness_at_lem w h in (rw (is, e) refl, rw (is, e, le_1 p (l.witnesses_at + l.witness_size * w + 8)) refl)

  -- the cells of a proof's parents, by what was read of its record
  pub parent_numbers : (i : ℕ) → i < length starts → {rest first count : ℕ} → rest ≡ after_name p (get_or starts i 0)
      → first ≡ le 4 p (rest + 12) → count ≡ le 4 p (rest + 16)
      → (first ≡ (proof_at (view rules p starts l) i).first_parent) × (first + count ≡ first + (proof_at (view rules p starts l) i).parent_count)
  unfolding proof_view
  parent_numbers i h n f k = let q = proof_at_lem i h in (rw (f, n, q), rw (k, n, q))
