-- Meets its contract. The invariant: the proofs before have nothing to say.
use mathlib.Core.List.{List}
use lib.ListN.{length}
use Rattle.derivation.specs.Rule.{Rule}
use Rattle.evr0_pass.specs.View.{proof_view}
use Rattle.evr0_authorised.proofs.OperatesLaws.{LeftFrom}
use Rattle.evr0_authorised.proofs.authorised.authorised_by.Given as goal

abbrev pub invariant-loop-start : goal.invariant-loop-start
invariant-loop-start l =
    (rules : List Rule) → LeftFrom (proof_view rules l.tables.payload.now) l.tables.starts.now l.marks l.proposition.0 (length l.yielded)
