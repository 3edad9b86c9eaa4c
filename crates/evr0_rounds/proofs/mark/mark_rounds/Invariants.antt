-- The table is what is marked after the rounds done, and each proof before `first` is marked in it.
use mathlib.Core.Path.{◌≡◌}
use mathlib.Core.List.{List}
use lib.ListN.{length}
use Rattle.derivation.specs.Rule.{Rule}
use Rattle.evr0_pass.specs.Tables.{tables_by}
use Rattle.evr0_rounds.proofs.MarkLaws.{Standing}
use Rattle.evr0_rounds.proofs.mark.mark_rounds.Given as goal

abbrev pub invariant-loop-done : goal.invariant-loop-done
invariant-loop-done l = (length l.rounds ≡ length l.tables.starts.now)
    × ((rules : List Rule) → Standing (tables_by rules l.tables) (length l.tables.starts.now) l.done l.first l.rounds)
