-- Slip 7 of *authorised*: two calls over files that hold the same section at one cursor, with lent tables equally long, leave the same answer
-- and the same tables.
use Prim.Native.Nat.{ℕ}
use mathlib.Core.Path.{◌≡◌, sym, ap, ◌∙◌}
use mathlib.Core.List.{List}
use lib.ListN.{length}
use Rattle.local_format.specs.Out.{Out}
use Rattle.local_format.specs.Number.{Chosen}
use Rattle.evr0_section.specs.Rows.{Entry}
use Rattle.evr0_section.specs.Proposition.{Proposition}
use Rattle.evr0_section.specs.Section.{Section}
use Rattle.evr0_section.specs.Neighbours.{SameSection}
use Rattle.evr0.specs.Answer as unmarked
use Rattle.evr0_read.specs.Ask.{proposition_number}
use Rattle.evr0_read.specs.Asked.{telling}
use Rattle.evr0_marks.specs.Answer.{Lent}
use Rattle.evr0_marks.proofs.Neighbours.{decoded_same, tables_same}
use Rattle.evr0_authorised.specs.Authorised.{Authorises}

-- Kept (8d): a theorem that stands for itself: the answer hangs on the section and the lent lengths alone.
pub authorised_same : {B : Type 0} (n : ℕ) (tell : Out (Chosen Section (Entry Proposition)) → B) (s s' : List ℕ) (cursor : ℕ) → SameSection s s' cursor
    → {before before' after after' : Lent} → unmarked.room_of before.others ≡ unmarked.room_of before'.others
    → length before.marks ≡ length before'.marks → {r r' : B} → Authorises n tell s cursor before after r
    → Authorises n tell s' cursor before' after' r' → (r ≡ r') × (after ≡ after')
authorised_same n tell s s' cursor both {before} {before'} others marks a a' =
    let e = decoded_same s s' cursor both before before' others marks in (
      a.answer ∙ ap (λ (x : Out Section). tell (proposition_number n x)) e ∙ sym a'.answer,
      tables_same s s' cursor both before before' others marks (ap (λ (x : Out Section). telling (λ c. c.decoded) (proposition_number n x)) e)
          a.tables a'.tables,
    )
