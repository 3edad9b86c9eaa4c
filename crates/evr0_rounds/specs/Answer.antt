-- What depth by rounds answers, and what the lent tables then hold: as by the decoder, with each proof's round for its depth.
use Rattle.std.specs.Prelude.{ℕ, ◌≡◌, List}
use Rattle.local_format.specs.Out.{Out, ok, refused}
use Rattle.evr0_section.specs.Section.{Section}
use Rattle.rule_table.specs.ByTable.{Given}
use Rattle.rounds.specs.ByRounds.{rounds_by, Methods}
use Rattle.evr0.specs.Answer.{Lent, room_of, Filled}

-- how many proofs are marked, and the cursor; a refusal leaves the cursor as it was brought
pub record Answer : Type 0 where
  pub cursor : ℕ
  pub outcome : Out ℕ

abbrev pub answer_of : ℕ → Out Section → Answer
answer_of cursor (ok s) = record { cursor = s.cursor; outcome = ok s.tables.head.counts.proofs }
answer_of cursor (refused r) = record { cursor = cursor; outcome = refused r }

-- the section at a cursor by rounds, for lent tables of these lengths
abbrev pub rounds_given : Given → Lent → List ℕ → ℕ → Out Section
rounds_given given tables bytes cursor = rounds_by given (room_of tables) bytes cursor

-- what a call leaves: the answer, the three tables, and what both methods have in common
pub record LeavesBy (given : Given) (bytes : List ℕ) (cursor : ℕ) (before after : Lent) (answered : Answer) : Type 0 where
  pub answer : answered ≡ answer_of cursor (rounds_given given before bytes cursor)
  pub tables : Filled (rounds_given given before bytes cursor) before after
  pub methods : Methods given (room_of before) bytes cursor
