-- Each turn is one step of the definition: what is answered from the cell reached on is the whole answer.
use Prim.Native.Nat.{◌-◌}
use mathlib.Core.Path.{◌≡◌}
use mathlib.Core.List.{List, []}
use Rattle.derivation.specs.Rule.{Rule}
use Rattle.derivation.specs.Section.{proof_at}
use Rattle.derivation.specs.Pass.{parents_from}
use Rattle.evr0_pass.specs.Tables.{tables_by}
use Rattle.evr0_rounds.proofs.kin.check_parents.Given as goal

abbrev pub invariant-loop-cell : goal.invariant-loop-cell
invariant-loop-cell l = (rules : List Rule)
    → parents_from l.tables.layout.parents_at (tables_by rules l.tables) (proof_at (tables_by rules l.tables) l.i) [] (l.end - l.cell) l.cell l.least 0
    ≡ parents_from l.tables.layout.parents_at (tables_by rules l.tables) (proof_at (tables_by rules l.tables) l.i) []
    (proof_at (tables_by rules l.tables) l.i).parent_count (proof_at (tables_by rules l.tables) l.i).first_parent 0 0
