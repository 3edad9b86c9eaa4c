-- The flat struct of depth by rounds, with what the definition answers.
use Rattle.std.specs.Prelude.{ℕ, true, false, ◌≡◌, List}
use Rattle.local_format.specs.Out.{Out, ok, refused}
use Rattle.rule_table.specs.ByTable.{Given}
use Rattle.rounds.specs.ByRounds.{Methods}
use Rattle.evr0.specs.Answer.{Lent, room_of, Filled}
use Rattle.evr0_rounds.specs.Answer.{Answer, answer_of, rounds_given}
use Rattle.falgnust.specs.Maps.{flat_refusal, no_refusal}
use Rattle.falgnust.specs.declared.by_rounds.Rounds.{Rounds}

-- with the cursor that stands beside the outcome
abbrev pub flat_marked : ℕ → Out ℕ → Rounds
flat_marked cursor (ok n) = record { accepted = true; refusal = no_refusal; proofs = n; cursor = cursor }
flat_marked cursor (refused r) = record { accepted = false; refusal = flat_refusal r; proofs = 0; cursor = cursor }

abbrev pub flat_rounds : Answer → Rounds
flat_rounds a = flat_marked a.cursor a.outcome

-- what a call leaves: the flat struct, the lent tables, and what both methods of depth have in common
pub record Rounded (given : Given) (bytes : List ℕ) (cursor : ℕ) (before after : Lent) (r : Rounds) : Type 0 where
  pub answer : r ≡ flat_rounds (answer_of cursor (rounds_given given before bytes cursor))
  pub tables : Filled (rounds_given given before bytes cursor) before after
  pub methods : Methods given (room_of before) bytes cursor
