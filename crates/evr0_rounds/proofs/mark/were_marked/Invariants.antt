-- Each turn is one step of the definition: what is answered from the cell reached on is the whole answer.
use Prim.Native.Nat.{◌-◌}
use mathlib.Core.Path.{◌≡◌}
use mathlib.Core.List.{List}
use Rattle.derivation.specs.Rule.{Rule}
use Rattle.derivation.specs.Section.{proof_at}
use Rattle.rounds.specs.InPlace.{were_marked}
use Rattle.evr0_pass.specs.Tables.{tables_by}
use Rattle.evr0_rounds.proofs.mark.were_marked.Given as goal

abbrev pub invariant-loop-cell : goal.invariant-loop-cell
invariant-loop-cell l = (rules : List Rule)
    → were_marked (tables_by rules l.tables) l.round l.rounds (l.end - l.cell) l.cell
    ≡ were_marked (tables_by rules l.tables) l.round l.rounds (proof_at (tables_by rules l.tables) l.i).parent_count
    (proof_at (tables_by rules l.tables) l.i).first_parent
