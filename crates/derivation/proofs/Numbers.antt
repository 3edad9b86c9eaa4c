-- The last pass refuses with 25 to 29 alone, and stands within any bound that holds of the parent cells: each step keeps to its numbers.
use Prim.Native.Nat.{ℕ, zero, suc, ◌+◌, ◌*◌, ◌≤◌, ◌<◌, max}
use mathlib.Core.Path.{refl}
use mathlib.Core.Bool.{Bool, ◌&&◌}
use mathlib.Core.List.{List, [], ◌∷◌, ◌++◌}
use native.Mathlib.Omega.{arith}
use lib.Dec.{leb}
use lib.ListN.{get_or}
use Rattle.local_format.proofs.Each.{Refuses, Within, answers, on, then, on_check, within, steps}
use Rattle.derivation.specs.Section.{Proof, Section, proof_at, parent_at, proof_total, parent_total}
use Rattle.derivation.specs.Pass.{parents_from, witnesses_from, depth_of, depths_from, depths}

unfoldable pub late : ℕ → Bool
late n = leb 25 n && leb n 29

module _ (most cells_at : ℕ) (s : Section) (cells : cells_at + 4 * parent_total s ≤ most)
    (owned : (i : ℕ) → i < proof_total s → (proof_at s i).first_parent + (proof_at s i).parent_count ≤ parent_total s) where
  parents_late : (p : Proof) (ds : List ℕ) (k c least m : ℕ) → c + k ≤ parent_total s → Refuses (Within most late) (parents_from cells_at s p ds k c least m)
  unfolding parents_from late
  parents_late p ds zero c least m h = answers tt
  parents_late p ds (suc k) c least m h =
      let there : cells_at + 4 * c ≤ most = omega arith in
      let rest = parents_late p ds k (suc c) (suc (parent_at s c)) (max m (get_or ds (parent_at s c) 0)) (omega arith) in
      search steps

  witnesses_late : (p : Proof) (k w : ℕ) → Refuses (Within most late) (witnesses_from cells_at s p k w)
  unfolding witnesses_from late
  witnesses_late p zero w = answers tt
  witnesses_late p (suc k) w = let rest = witnesses_late p k (suc w) in search steps

  depth_late : (i : ℕ) (ds : List ℕ) → i < proof_total s → Refuses (Within most late) (depth_of cells_at s (proof_at s i) ds)
  unfolding depth_of late
  depth_late i ds h =
      on (parents_late (proof_at s i) ds _ _ 0 0 (owned i h)) λ deepest u.
      on_check (leb (suc deepest) 256) 27 0 _ (within most late 27 0 (omega arith) refl) (then (witnesses_late (proof_at s i) _ _) (answers tt))

  depths_late : (k i : ℕ) (ds : List ℕ) → i + k ≤ proof_total s → Refuses (Within most late) (depths_from cells_at s k i ds)
  unfolding depths_from
  depths_late zero i ds h = answers tt
  depths_late (suc k) i ds h = on (depth_late i ds (omega arith)) λ d u. depths_late k (suc i) (ds ++ (d ∷ [])) (omega arith)

  pub pass_late : Refuses (Within most late) (depths cells_at s)
  unfolding depths
  pass_late = depths_late (proof_total s) 0 [] (omega arith)
