-- Calls on a register one after the other, by what the functions promise of each: the words before, the steps, what each is answered, the words after.
use Rattle.std.specs.Prelude.{ℕ, List, [], ◌∷◌}
use Rattle.local_format.specs.Out.{Out, ok}
use Rattle.semcode_decode.specs.Layout.{Lent}
use Rattle.semcode_decode.specs.Number.{decode_anew}
use Rattle.lock_rules.specs.Register.{Step}
use Rattle.lock_rules.specs.Register as step
use Rattle.lock_rules.specs.Source.{Root, root_under}
use Rattle.locks.specs.Claim.{Claims}
use Rattle.lock_register.specs.Release.{Releases}

pub data Calls : List ℕ → List (Step Root) → List (Out ℕ) → List ℕ → Type 0 where
  none : {words : List ℕ} → Calls words [] [] words
  claims : {words middle words' : List ℕ} {steps : List (Step Root)} {tolds : List (Out ℕ)}
      (source : List ℕ) (owner base revision : ℕ) (code : List ℕ) (before after : Lent) (told : Out ℕ)
      → Claims (λ x. x) source owner base revision code words middle before after told → Calls middle steps tolds words'
      → Calls words (step.claims (root_under source) owner (decode_anew base revision code before) ∷ steps) (told ∷ tolds) words'
  releases : {words middle words' : List ℕ} {steps : List (Step Root)} {tolds : List (Out ℕ)} (owner told : ℕ)
      → Releases owner words middle told → Calls middle steps tolds words' → Calls words (step.releases owner ∷ steps) (ok told ∷ tolds) words'
