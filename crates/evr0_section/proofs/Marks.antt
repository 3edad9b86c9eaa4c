-- The marks of every section that is accepted are those of document 02: the tables that were read are checked, so the theorem about checked
-- tables holds of them.
use Prim.Native.Nat.{ℕ}
use mathlib.Core.List.{List, Memᴰ}
use Rattle.derivation.specs.Rule.{Rule, Shaped, four_rules}
use Rattle.derivation.proofs.Rules.{four_shaped}
use Rattle.derivation.proofs.Mark.{marks_are}
use Rattle.evr0_section.specs.Head.{Room}
use Rattle.evr0_section.specs.Marks.{MarksByRules}
use Rattle.evr0_section.proofs.SectionSteps.{section_parts}
use Rattle.evr0_section.proofs.Demand.{checked}

pub marks_read : (rules : List Rule) → ((r : Rule) → Memᴰ r rules → Shaped r) → (room : Room) (bytes : List ℕ) (cursor : ℕ)
    → MarksByRules rules room bytes cursor
marks_read rules shaped room bytes cursor d e =
    let a = section_parts rules room bytes cursor d e in
    marks_are _ _ (checked rules room bytes cursor shaped d.tables a.tables) d.depths a.depths

-- by the four rules
pub four_marks : (room : Room) (bytes : List ℕ) (cursor : ℕ) → MarksByRules four_rules room bytes cursor
four_marks = marks_read four_rules four_shaped
