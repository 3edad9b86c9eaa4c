-- A walk by its picks, tested: where the test passes there is the walk.
use Prim.Native.Nat.{ℕ, ◌+◌}
use mathlib.Core.Path.{◌≡◌, subst}
use mathlib.Core.Bool.{Bool, true, ◌&&◌}
use mathlib.Core.List.{List, [], ◌∷◌}
use lib.Dec.{ltb, leb, eqb}
use borrow.Author.Tests.{ltb-true, leb-true, eqb-true}
use Rattle.derivation.specs.Section.{Section, proof_at, parent_at, proof_total}
use Rattle.derivation.specs.Walk.{Walk, stay, move}
use Rattle.derivation.proofs.Tests.{both}

-- whether i is a proof that owns the parent cell c, where a proof with that number is
unfoldable pub can_pick : Section → ℕ → ℕ → Bool
can_pick s i c =
    ltb i (proof_total s) && (leb (proof_at s i).first_parent c && (ltb c ((proof_at s i).first_parent + (proof_at s i).parent_count) &&
    (ltb (parent_at s c) (proof_total s) && eqb (proof_at s (parent_at s c)).number (parent_at s c))))

unfoldable pub reaches : Section → ℕ → List ℕ → ℕ → Bool
reaches s i [] k = ltb i (proof_total s) && eqb i k
reaches s i (c ∷ cs) k = can_pick s i c && reaches s (parent_at s c) cs k

picked : (s : Section) (i c : ℕ) (cs : List ℕ) (k : ℕ) → can_pick s i c ≡ true → Walk s (parent_at s c) cs k → Walk s i (c ∷ cs) k
unfolding can_pick
picked s i c cs k e w =
    let a = both (ltb i (proof_total s)) _ e in
    let b = both (leb (proof_at s i).first_parent c) _ a.1 in
    let d = both (ltb c ((proof_at s i).first_parent + (proof_at s i).parent_count)) _ b.1 in
    let f = both (ltb (parent_at s c) (proof_total s)) (eqb (proof_at s (parent_at s c)).number (parent_at s c)) d.1 in
    move (ltb-true _ _ a.0) (record { from = leb-true _ _ b.0; upto = ltb-true _ _ d.0 }) (ltb-true _ _ f.0) (eqb-true _ _ f.1) w

pub reached : (s : Section) (i : ℕ) (cs : List ℕ) (k : ℕ) → reaches s i cs k ≡ true → Walk s i cs k
unfolding reaches
reached s i [] k e =
    let a = both (ltb i (proof_total s)) (eqb i k) e in
    subst (λ (j : ℕ). Walk s i [] j) (eqb-true i k a.1) (stay (ltb-true _ _ a.0))
reached s i (c ∷ cs) k e =
    let a = both (can_pick s i c) (reaches s (parent_at s c) cs k) e in
    picked s i c cs k a.0 (reached s (parent_at s c) cs k a.1)
