-- What the section decoder answers with a table of marks, and what the lent tables then hold.
use Rattle.std.specs.Prelude.{ℕ, min, ◌≡◌, List, [], length}
use Rattle.local_format.specs.Out.{Out, ok, refused}
use Rattle.lent_table.specs.Lent.{lent}
use Rattle.derivation.specs.Rule.{four_rules}
use Rattle.evr0_section.specs.Head.{Room}
use Rattle.evr0_section.specs.Section.{Section, decode_section}
use Rattle.evr0_section.specs.Demand.{Demand3}
use Rattle.evr0_section.specs.Marks.{marks_of, MarksByRules}
use Rattle.rule_table.specs.ByTable.{Given, decode_by, HoldsBy}
use Rattle.evr0.specs.Answer as unmarked
use Rattle.evr0.specs.Answer.{Answer, answer_of}

-- the lent tables: those of the decoder without marks, and the marks
pub record Lent : Type 0 where
  pub others : unmarked.Lent
  pub marks : List ℕ

abbrev pub with_marks : unmarked.Lent → List ℕ → Lent
with_marks others marks = record { others = others; marks = marks }

-- their lengths. Depths and marks are one for each proof, so the shorter of the two decides
abbrev pub room_of : Lent → Room
room_of t =
    record {
      propositions = length t.others.propositions;
      proofs = length t.others.proofs;
      depths = min (length t.others.depths) (length t.marks);
    }

-- what fills the marks; a refusal has nothing
abbrev pub proof_marks : Out Section → List ℕ
proof_marks (ok d) = marks_of d
proof_marks (refused r) = []

-- the tables hold it, and zeros past it
pub record Filled (x : Out Section) (before after : Lent) : Type 0 where
  pub others : unmarked.Filled x before.others after.others
  pub marks : after.marks ≡ lent (length before.marks) (proof_marks x)

-- the section that document 01 defines at a cursor, for lent tables of these lengths
abbrev pub decode_in : Lent → List ℕ → ℕ → Out Section
decode_in tables bytes cursor = decode_section (room_of tables) bytes cursor

-- what a call of the decoder leaves
pub record Leaves (bytes : List ℕ) (cursor : ℕ) (before after : Lent) (given : Answer) : Type 0 where
  pub answer : given ≡ answer_of cursor (decode_in before bytes cursor)
  pub tables : Filled (decode_in before bytes cursor) before after
  pub demand3 : Demand3 (room_of before) bytes cursor
  -- each mark says what document 02 has it say
  pub marked : MarksByRules four_rules (room_of before) bytes cursor

-- ---- The same by the rules of a call

abbrev pub decode_given : Given → Lent → List ℕ → ℕ → Out Section
decode_given given tables bytes cursor = decode_by given (room_of tables) bytes cursor

pub record LeavesBy (given : Given) (bytes : List ℕ) (cursor : ℕ) (before after : Lent) (answered : Answer) : Type 0 where
  pub answer : answered ≡ answer_of cursor (decode_given given before bytes cursor)
  pub tables : Filled (decode_given given before bytes cursor) before after
  pub holds : HoldsBy given (room_of before) bytes cursor
