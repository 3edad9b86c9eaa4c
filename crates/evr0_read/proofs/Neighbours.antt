-- Slip 7 of records by number and way down: whatever is asked and told, two calls over files that hold the same section at one
-- cursor, with lent tables equally long, leave the same answer and the same tables.
use Prim.Native.Nat.{ℕ}
use mathlib.Core.Path.{◌≡◌, sym, ap, ◌∙◌}
use mathlib.Core.List.{List}
use Rattle.local_format.specs.Out.{Out}
use Rattle.local_format.specs.Number.{Chosen}
use Rattle.evr0_section.specs.Section.{Section}
use Rattle.evr0_section.specs.Neighbours.{SameSection}
use Rattle.evr0.specs.Answer.{Lent, room_of}
use Rattle.evr0.proofs.Neighbours.{decoded_same, filled_same}
use Rattle.evr0_read.specs.Asked.{telling, Answers}

module _ {E B : Type 0} (ask : Out Section → Out (Chosen Section E)) (tell : Out (Chosen Section E) → B) where
  pub asked_same : (s s' : List ℕ) (cursor : ℕ) → SameSection s s' cursor → {before before' after after' : Lent} → room_of before ≡ room_of before'
      → {r r' : B} → Answers ask tell s cursor before after r → Answers ask tell s' cursor before' after' r' → (r ≡ r') × (after ≡ after')
  asked_same s s' cursor both {before} {before'} long a a' =
      let e = decoded_same s s' cursor both before before' long in (
        a.answer ∙ ap (λ (x : Out Section). tell (ask x)) e ∙ sym a'.answer,
        filled_same s s' cursor both long (ap (λ (x : Out Section). telling (λ c. c.decoded) (ask x)) e) a.tables a'.tables,
      )
