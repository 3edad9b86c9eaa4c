-- The invariant: what is left of the pass makes the whole.
use mathlib.Core.List.{List}
use lib.ListN.{length}
use Rattle.derivation.specs.Rule.{Rule}
use Rattle.evr0_pass.specs.View.{proof_view}
use Rattle.authorised_table.proofs.FlagLaws.{LeftFrom}
use Rattle.authorised_table.proofs.table.flag_proofs.Given as goal

abbrev pub invariant-loop-start : goal.invariant-loop-start
invariant-loop-start l =
    (rules : List Rule)
    → LeftFrom (proof_view rules l.tables.payload.now) l.tables.starts.now l.marks l.initial.authorised (length l.yielded) l.authorised
