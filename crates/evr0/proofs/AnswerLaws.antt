-- What is left of a refused section, whose tables were cleared.
use Prim.Native.Nat.{ℕ}
use mathlib.Core.Path.{◌≡◌, refl}
use Rattle.local_format.specs.Refusal.{Refusal}
use Rattle.local_format.specs.Out.{Out, refused}
use Rattle.evr0_section.specs.Section.{Section}
use Rattle.evr0.specs.Answer.{Lent, Answer, answer_of, Filled}
use Rattle.evr0.specs.Steps.{Passes, Ends}

module _ {x : Out Section} {q : Refusal} (e : x ≡ refused q) {before after : Lent} (none : Filled (refused q) before after) where
  pub refusal_passes : Passes x before after (refused q)
  refusal_passes = rw e (record { answer = refl; tables = none })

  pub refusal_ends : {cursor : ℕ} {given : Answer} → given ≡ answer_of cursor (refused q) → Ends x cursor before after given
  refusal_ends g = rw e (record { answer = g; tables = none })
