-- The proofs passed are after the round, the others before it.
use mathlib.Core.Path.{◌≡◌}
use mathlib.Core.List.{List}
use lib.ListN.{length}
use Rattle.derivation.specs.Rule.{Rule}
use Rattle.rounds.proofs.InPlace.{partly}
use Rattle.evr0_pass.specs.Tables.{tables_by}
use Rattle.evr0_rounds.proofs.mark.mark_round.Given as goal

abbrev pub invariant-loop-i : goal.invariant-loop-i
invariant-loop-i l = (length l.rounds ≡ length l.initial.rounds)
    × ((rules : List Rule) → l.rounds ≡ partly (tables_by rules l.tables) l.round l.initial.rounds l.i)
