-- Each turn is one step of the definition: what is made from the cell reached on is the whole answer.
use Rattle.std.proofs.Common.{◌≡◌, ◌-◌, List}
use Rattle.derivation.specs.Rule.{Rule}
use Rattle.derivation.specs.InOrder.{gathered}
use Rattle.derivation.specs.Mark.{joined}
use Rattle.evr0_pass.specs.Tables.{tables_by}
use Rattle.evr0_marks.proofs.marks.by_parents.Given as goal

abbrev pub invariant-loop-cell : goal.invariant-loop-cell
invariant-loop-cell l = (rules : List Rule)
    → gathered joined (tables_by rules l.tables) l.known (l.end - l.cell) l.cell l.mark
    ≡ gathered joined (tables_by rules l.tables) l.known (l.end - l.first) l.first 0
