-- The parents of a proof by one cell: refused by 25 or by 26, or the rest of the cells.
use Prim.Native.Nat.{ℕ, ◌+◌, ◌-◌, ◌*◌, ◌<◌}
use mathlib.Core.Path.{◌≡◌, refl, sym, ap, ◌∙◌}
use mathlib.Core.Bool.{Bool, true, false, ◌&&◌}
use mathlib.Core.List.{[]}
use native.Mathlib.Omega.{arith}
use lib.Dec.{ltb, leb}
use Rattle.local_format.specs.Refusal.{Refusal, refusal}
use Rattle.local_format.specs.Out.{Out, ok, refused, check}
use Rattle.local_format.proofs.OutLaws.{never, refused_same, check_ok}
use Rattle.derivation.specs.Section.{Proof, Section, parent_at}
use Rattle.derivation.specs.Pass.{agrees, parents_from}
use Rattle.derivation.proofs.Laws.{parents_25, parents_26, parents_turn}

pub check_refused : (t : Bool) (n at : ℕ) {q : Refusal} → refused q ≡ check t n at → (t ≡ false) × (q ≡ refusal n at)
check_refused true n at e = absurd (never e)
check_refused false n at e = (refl, refused_same e)

module _ (at : ℕ) (s : Section) (q : Proof) {i : ℕ} (number : q.number ≡ i) where
  abbrev from : ℕ → ℕ → ℕ → Out ℕ
  from k c least = parents_from at s q [] k c least 0

  -- all of them
  pub begins : {first end : ℕ} → first ≡ q.first_parent → end ≡ first + q.parent_count → from (end - first) first 0 ≡ from q.parent_count q.first_parent 0
  begins {first} {end} f e = let n : end - first ≡ q.parent_count = omega arith in rw (n, f)

  module _ (k c least : ℕ) (some : 0 < k) {parent : ℕ} (is : parent ≡ parent_at s c) where
    suits : (ltb (parent_at s c) q.number && leb least (parent_at s c)) ≡ (ltb parent i && leb least parent)
    suits = rw (is, number)

    pub step_25 : {r : Refusal} → refused r ≡ check (ltb parent i && leb least parent) 25 (at + 4 * c) → from k c least ≡ refused r
    step_25 e =
        let (no_rise, r) = check_refused (ltb parent i && leb least parent) 25 (at + 4 * c) e in
        parents_25 at s q [] k c least 0 some (suits ∙ no_rise) ∙ ap refused (sym r)

    module _ {u : Unit {0}} (rise : ok u ≡ check (ltb parent i && leb least parent) 25 (at + 4 * c)) {agree : Bool} (same : agree ≡ agrees s q parent) where
      rises : (ltb (parent_at s c) q.number && leb least (parent_at s c)) ≡ true
      rises = suits ∙ check_ok (ltb parent i && leb least parent) 25 (at + 4 * c) (sym rise)

      agrees_so : agrees s q (parent_at s c) ≡ agree
      agrees_so = sym (same ∙ ap (agrees s q) is)

      pub step_26 : {r : Refusal} → refused r ≡ check agree 26 (at + 4 * c) → from k c least ≡ refused r
      step_26 e =
          let (differ, r) = check_refused agree 26 (at + 4 * c) e in
          parents_26 at s q [] k c least 0 some rises (agrees_so ∙ differ) ∙ ap refused (sym r)

      pub step_on : {v : Unit {0}} → ok v ≡ check agree 26 (at + 4 * c) → from k c least ≡ from (k - 1) (c + 1) (parent + 1)
      step_on e =
          parents_turn at s q [] k c least 0 some rises (agrees_so ∙ check_ok agree 26 (at + 4 * c) (sym e))
          ∙ ap (λ (x : ℕ). from (k - 1) (c + 1) (x + 1)) (sym is)
