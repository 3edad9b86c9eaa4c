-- The last pass, proof by proof: each parent 25 and 26, the depth 27, the witnesses 28 and 29. Offsets are places in the payload.
use Rattle.std.specs.Prelude.{ℕ, zero, suc, ◌+◌, ◌*◌, max, Bool, ◌&&◌, List, [], ◌∷◌, ◌++◌, get_or, ltb, leb, eqb}
use Rattle.local_format.specs.Out.{Out, ok, check, ◌>>=◌, ◌>>◌}
use Rattle.derivation.specs.Rule.{polarity_fits}
use Rattle.derivation.specs.Section.{Proof, Section, proof_at, witness_at, parent_at, proof_total}

-- the proof with this place has this proposition and this authority
unfoldable pub agrees : Section → Proof → ℕ → Bool
agrees s p j = eqb (proof_at s j).proposition p.proposition && eqb (proof_at s j).authority p.authority

module _ (cells_at : ℕ) (s : Section) where
  -- the next k parents of the proof p, from the cell c on, whose numbers are at least `least`. `ds` are the depths of the proofs before p.
  -- The answer is the greatest of m and the parents' depths
  unfoldable pub parents_from : Proof → List ℕ → ℕ → ℕ → ℕ → ℕ → Out ℕ
  parents_from p ds zero c least m = ok m
  parents_from p ds (suc k) c least m = do
    check (ltb (parent_at s c) p.number && leb least (parent_at s c)) 25 (cells_at + 4 * c)
    check (agrees s p (parent_at s c)) 26 (cells_at + 4 * c)
    parents_from p ds k (suc c) (suc (parent_at s c)) (max m (get_or ds (parent_at s c) 0))

  -- the next k witnesses of the proof p, from the witness w on
  unfoldable pub witnesses_from : Proof → ℕ → ℕ → Out (Unit {0})
  witnesses_from p zero w = ok tt
  witnesses_from p (suc k) w = do
    check (eqb (witness_at s w).proposition p.proposition) 28 0
    check (polarity_fits p.rule (witness_at s w).polarity) 29 0
    witnesses_from p k (suc w)

  -- one proof: its depth is 1 without parents, else one more than the deepest parent's
  unfoldable pub depth_of : Proof → List ℕ → Out ℕ
  depth_of p ds = do
    deepest ← parents_from p ds p.parent_count p.first_parent 0 0
    check (leb (suc deepest) 256) 27 0
    witnesses_from p p.witness_count p.first_witness
    ok (suc deepest)

  -- the next n proofs from i on, after those whose depths are ds
  unfoldable pub depths_from : ℕ → ℕ → List ℕ → Out (List ℕ)
  depths_from zero i ds = ok ds
  depths_from (suc n) i ds = do
    d ← depth_of (proof_at s i) ds
    depths_from n (suc i) (ds ++ (d ∷ []))

  -- the depth of each proof, where the parent table starts at the place `cells_at`
  unfoldable pub depths : Out (List ℕ)
  depths = depths_from (proof_total s) 0 []
