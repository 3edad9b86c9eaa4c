-- The first i entries are marks, from which the rest are made.
use Rattle.std.proofs.Common.{◌≡◌, ◌-◌, List, length, take}
use Rattle.derivation.specs.Rule.{Rule}
use Rattle.derivation.specs.InOrder.{in_order}
use Rattle.derivation.specs.Mark as of
use Rattle.evr0_pass.specs.Tables.{tables_by}
use Rattle.evr0_marks.proofs.marks.mark_proofs.Given as goal

abbrev pub invariant-loop-i : goal.invariant-loop-i
invariant-loop-i l = (rules : List Rule)
    → in_order (of.mark_of (tables_by rules l.tables)) (length l.tables.starts.now - l.i) l.i (take l.i l.marks)
    ≡ of.marks (tables_by rules l.tables)
