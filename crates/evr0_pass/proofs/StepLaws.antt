-- The last pass by its steps: what is left of the definition once the checks of one turn are answered.
use Rattle.std.specs.Prelude.{max}
use Prim.Native.Nat.{ℕ, zero, suc, ◌+◌, ◌-◌, ◌*◌, ◌<◌}
use mathlib.Core.Path.{◌≡◌, refl, sym, ◌∙◌}
use mathlib.Core.List.{List}
use mathlib.Core.Bool.{Bool, ◌&&◌}
use native.Mathlib.Omega.{arith}
use native.Mathlib.Numerals.{add-one, sub-one}
use lib.Dec.{eqb, ltb, leb}
use lib.ListN.{get_or}
use borrow.Author.Tests.{ltb-true}
use Rattle.local_format.specs.Refusal.{Refusal}
use Rattle.local_format.specs.Out.{Out, ok, refused, check, ◌>>◌}
use Rattle.local_format.proofs.OutLaws.{check_ok}
use Rattle.derivation.specs.Rule.{polarity_fits}
use Rattle.derivation.specs.Section.{Proof, Section, witness_at, parent_at}
use Rattle.derivation.specs.Pass.{agrees, parents_from, witnesses_from}
use Rattle.derivation.proofs.Tests.{both}
use Rattle.evr0_pass.specs.Maps.{suited}

-- a parent that rises is below its proof
pub rises_below : (parent number least at : ℕ) {u : Unit {0}} → ok u ≡ check (ltb parent number && leb least parent) 25 at → parent < number
rises_below parent number least at e =
    ltb-true parent number (both (ltb parent number) (leb least parent) (check_ok _ 25 at (sym e))).0

module _ (cells_at : ℕ) (s : Section) (p : Proof) where
  -- ---- A parent
  parents_step : (ds : List ℕ) (k c least m parent : ℕ) → 0 < k → parent_at s c ≡ parent → parents_from cells_at s p ds k c least m
      ≡ (check (ltb parent p.number && leb least parent) 25 (cells_at + 4 * c)
      >> (check (agrees s p parent) 26 (cells_at + 4 * c)
      >> parents_from cells_at s p ds (k - 1) (c + 1) (parent + 1) (max m (get_or ds parent 0))))
  unfolding parents_from
  parents_step ds zero c least m parent h is = absurd (omega arith)
  parents_step ds (suc k) c least m parent h is = simp (is, sub-one, add-one)

  module _ (ds : List ℕ) (k c least m parent number : ℕ) (h : 0 < k) (is : parent_at s c ≡ parent) (n : number ≡ p.number) where
    pub parents_25 : {q : Refusal} → refused q ≡ check (ltb parent number && leb least parent) 25 (cells_at + 4 * c)
        → refused q ≡ parents_from cells_at s p ds k c least m
    parents_25 e = let f = rw n at e in sym (parents_step ds k c least m parent h is ∙ rw (← f) refl)

    module _ {u : Unit {0}} (e : ok u ≡ check (ltb parent number && leb least parent) 25 (cells_at + 4 * c)) (b : Bool) (a : agrees s p parent ≡ b) where
      pub parents_26 : {q : Refusal} → refused q ≡ check b 26 (cells_at + 4 * c) → refused q ≡ parents_from cells_at s p ds k c least m
      parents_26 f = let d = rw n at e in sym (parents_step ds k c least m parent h is ∙ rw (← d, a, ← f) refl)

      pub parents_on : {v : Unit {0}} → ok v ≡ check b 26 (cells_at + 4 * c)
          → parents_from cells_at s p ds (k - 1) (c + 1) (parent + 1) (max m (get_or ds parent 0)) ≡ parents_from cells_at s p ds k c least m
      parents_on f = let d = rw n at e in sym (parents_step ds k c least m parent h is ∙ rw (← d, a, ← f) refl)

  -- ---- A witness
  joined : (x y z : Out (Unit {0})) → (x >> (y >> z)) ≡ ((x >> y) >> z)
  joined (ok u) y z = refl
  joined (refused q) y z = refl

  witnesses_step : (k w : ℕ) → 0 < k → witnesses_from cells_at s p k w
      ≡ (suited p.rule p.proposition (witness_at s w).proposition (witness_at s w).polarity >> witnesses_from cells_at s p (k - 1) (w + 1))
  unfolding witnesses_from
  witnesses_step zero w h = absurd (omega arith)
  witnesses_step (suc k) w h =
      simp (sub-one, add-one)
      (joined (check (eqb (witness_at s w).proposition p.proposition) 28 0) (check (polarity_fits p.rule (witness_at s w).polarity) 29 0)
      (witnesses_from cells_at s p k (suc w)))

  module _ (k w proposition polarity : ℕ) (h : 0 < k) (is : (witness_at s w).proposition ≡ proposition) (has : (witness_at s w).polarity ≡ polarity) where
    pub witnesses_refused : {q : Refusal} → refused q ≡ suited p.rule p.proposition proposition polarity → refused q ≡ witnesses_from cells_at s p k w
    witnesses_refused e = sym (witnesses_step k w h ∙ rw (is, has, ← e) refl)

    pub witnesses_on : {u : Unit {0}} → ok u ≡ suited p.rule p.proposition proposition polarity
        → witnesses_from cells_at s p (k - 1) (w + 1) ≡ witnesses_from cells_at s p k w
    witnesses_on e = sym (witnesses_step k w h ∙ rw (is, has, ← e) refl)
