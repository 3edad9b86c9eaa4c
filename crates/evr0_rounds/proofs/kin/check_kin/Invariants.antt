-- Each turn is one step of the definition: what is answered from the proof reached on is the whole answer.
use Prim.Native.Nat.{◌-◌}
use mathlib.Core.Path.{◌≡◌}
use mathlib.Core.List.{List}
use lib.ListN.{length}
use Rattle.derivation.specs.Rule.{Rule}
use Rattle.rounds.specs.Rounds as of
use Rattle.evr0_pass.specs.Tables.{tables_by}
use Rattle.evr0_rounds.proofs.kin.check_kin.Given as goal

abbrev pub invariant-loop-i : goal.invariant-loop-i
invariant-loop-i l = (rules : List Rule)
    → of.kin_from l.tables.layout.parents_at (tables_by rules l.tables) (length l.tables.starts.now - l.i) l.i
    ≡ of.kin l.tables.layout.parents_at (tables_by rules l.tables)
