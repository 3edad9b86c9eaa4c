-- The marks of the proofs of a section (document 02, Slip 5).
use Rattle.std.specs.Prelude.{ℕ, ◌≡◌, List}
use Rattle.local_format.specs.Out.{ok}
use Rattle.derivation.specs.Rule.{Rule}
use Rattle.derivation.specs.Mark.{Marks, marks}
use Rattle.evr0_section.specs.Head.{Room}
use Rattle.evr0_section.specs.Section.{Section, section_of, section_at}

abbrev pub marks_of : Section → List ℕ
marks_of d = marks (section_of d.tables)

-- of every section that is accepted: one mark for each proof, and each says of the walks down from it what the request has it say
abbrev pub MarksByRules : List Rule → Room → List ℕ → ℕ → Type 0
MarksByRules rules room bytes cursor = (d : Section) → section_at rules room bytes cursor ≡ ok d → Marks (section_of d.tables) (marks_of d)
