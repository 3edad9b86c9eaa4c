-- Meets its contract: so many witnesses before the parents, or 0.
use native.Mathlib.Omega.{arith}
use mathlib.Core.Path.{◌∙◌}
use Rattle.evr0_read.proofs.PlaceLaws.{steps_back, witness_there, witness_none}
use Rattle.evr0_read.proofs.cell.witness_place.Goals as goal

pub returns-then-counts-i : goal.returns-then-counts-i
returns-then-counts-i c =
    witness_none _ _ _ _ _ (omega (arith, c.if-counts-i.true, c.place-i.ensures))

pub returns : goal.returns
returns c =
    let w = c.place-i.ensures in
    witness_there _ _ _ _ _ (omega (arith, c.if-counts-i.false, w))
    (c.start_before.ensures ∙ rw (c.start_before-parents_at.ensures, c.witness_size.ensures.0, w) (steps_back _ _ _))
