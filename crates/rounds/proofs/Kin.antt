-- The checks of the parents alone, 25 and 26: they are the same whatever depths are known, and what they refuse stands at a cell.
use Prim.Native.Nat.{ℕ, zero, suc, ◌+◌, ◌*◌, ◌≤◌, ◌<◌, max}
use mathlib.Core.Path.{◌≡◌, refl, ◌∙◌}
use mathlib.Core.Bool.{Bool, true, false, ◌&&◌}
use mathlib.Core.List.{List, []}
use native.Mathlib.Omega.{arith}
use lib.Dec.{ltb, leb}
use Rattle.local_format.specs.Refusal.{Refusal, refusal}
use Rattle.local_format.specs.Out.{Out, ok, refused, check, ◌>>◌}
use Rattle.local_format.proofs.OutLaws.{then_ok}
use Rattle.local_format.proofs.Each.{Refuses, answers, then, on_check, each_refused}
use Rattle.derivation.specs.Section.{Proof, Section, Within, proof_at, parent_at, proof_total, OwnsParent}
use Rattle.derivation.specs.Pass.{agrees, parents_from}
use Rattle.derivation.specs.InOrder.{gathered}
use Rattle.derivation.proofs.Tests.{at_or_after}
use Rattle.rounds.specs.Rounds.{kin_of, kin_from, kin}
use Rattle.rounds.specs.Height.{greatest}

-- ---- Whatever the depths
module _ {A B : Type 0} where
  check_both : (t : Bool) (n at : ℕ) (x : Out B) (y : Out A) (z : Out B) → x ≡ (y >> z) → (check t n at >> x) ≡ (check t n at >> y >> z)
  check_both true n at x y z e = e
  check_both false n at x y z e = refl

module _ (cells_at : ℕ) (s : Section) where
  -- the checks of a proof's parents, and then the greatest of their depths
  parents_apart : (p : Proof) (ds : List ℕ) (k c least m n : ℕ)
      → parents_from cells_at s p ds k c least m ≡ (parents_from cells_at s p [] k c least n >> ok (gathered max s ds k c m))
  unfolding parents_from gathered
  parents_apart p ds zero c least m n = refl
  parents_apart p ds (suc k) c least m n =
      check_both (ltb (parent_at s c) p.number && leb least (parent_at s c)) _ _ _ _ _
      (check_both (agrees s p (parent_at s c)) _ _ _ _ _ (parents_apart p ds k (suc c) (suc (parent_at s c)) _ _))

  pub apart : (p : Proof) (ds : List ℕ)
      → parents_from cells_at s p ds p.parent_count p.first_parent 0 0 ≡ (kin_of cells_at s p >> ok (greatest s p ds))
  apart p ds = parents_apart p ds p.parent_count p.first_parent 0 0 0 ∙ go (parents_from cells_at s p [] p.parent_count p.first_parent 0 0)
    where
      go : (x : Out ℕ) → (x >> ok (greatest s p ds)) ≡ (x >> ok (tt {0}) >> ok (greatest s p ds))
      go (ok m) = refl
      go (refused r) = refl

  kin_each : (n i : ℕ) → kin_from cells_at s n i ≡ ok tt → (j : ℕ) → Within i n j → kin_of cells_at s (proof_at s j) ≡ ok tt
  unfolding kin_from
  kin_each zero i e j o = absurd (omega arith)
  kin_each (suc n) i e j o =
      let a = then_ok (kin_of cells_at s (proof_at s i)) _ e in
      at_or_after (λ (j : ℕ). kin_of cells_at s (proof_at s j) ≡ ok tt) i n a.1 (kin_each n (suc i) a.2) j o

  pub passed : kin cells_at s ≡ ok tt → (i : ℕ) → i < proof_total s → kin_of cells_at s (proof_at s i) ≡ ok tt
  passed pass i l = kin_each (proof_total s) 0 pass i (record { from = omega arith; upto = omega arith })

  -- ---- What is refused
  module _ (Q : Refusal → Type 0) where
    -- Q of both refusals at a cell
    At : ℕ → Type 0
    At c = Q (refusal 25 (cells_at + 4 * c)) × Q (refusal 26 (cells_at + 4 * c))

    parents_refuse : (p : Proof) (k c least m : ℕ) → ((d : ℕ) → Within c k d → At d) → Refuses Q (parents_from cells_at s p [] k c least m)
    unfolding parents_from At
    parents_refuse p zero c least m h = answers tt
    parents_refuse p (suc k) c least m h =
        let here = h c (record { from = omega arith; upto = omega arith }) in
        on_check (ltb (parent_at s c) p.number && leb least (parent_at s c)) 25 (cells_at + 4 * c) _ here.0
        (on_check (agrees s p (parent_at s c)) 26 (cells_at + 4 * c) _ here.1
        (parents_refuse p k (suc c) (suc (parent_at s c)) (max m 0) (λ d o. h d (record { from = omega arith; upto = omega arith }))))

    of_refuse : (p : Proof) → ((d : ℕ) → Within p.first_parent p.parent_count d → At d) → Refuses Q (kin_of cells_at s p)
    of_refuse p h = then (parents_refuse p _ _ 0 0 h) (answers tt)

    kin_refuse : (n i : ℕ) → ((j : ℕ) → Within i n j → (d : ℕ) → OwnsParent s j d → At d) → Refuses Q (kin_from cells_at s n i)
    unfolding kin_from
    kin_refuse zero i h = answers tt
    kin_refuse (suc n) i h =
        then (of_refuse (proof_at s i) (h i (record { from = omega arith; upto = omega arith })))
        (kin_refuse n (suc i) (λ j o. h j (record { from = omega arith; upto = omega arith })))

  pub kin_late : (n i : ℕ) (r : Refusal) → kin_from cells_at s n i ≡ refused r → (25 ≤ r.number) × (r.number ≤ 26)
  unfolding At
  kin_late n i r e =
      each_refused (kin_refuse (λ r. (25 ≤ r.number) × (r.number ≤ 26)) n i (λ j o d p. ((omega arith, omega arith), (omega arith, omega arith)))) e

  pub kin_within : (most : ℕ) → ((i : ℕ) → i < proof_total s → (proof_at s i).first_parent + (proof_at s i).parent_count ≤ most)
      → Refuses (λ r. r.offset ≤ cells_at + 4 * most) (kin cells_at s)
  unfolding At
  kin_within most owned = kin_refuse (λ r. r.offset ≤ cells_at + 4 * most) (proof_total s) 0
      (λ j o d p. (omega (arith, owned j (omega arith)), omega (arith, owned j (omega arith))))
