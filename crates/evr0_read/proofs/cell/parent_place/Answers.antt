-- So many cells before the end, or 0.
use Rattle.evr0_read.proofs.PlaceLaws.{parent_there, parent_none}
use Rattle.evr0_read.proofs.cell.parent_place.Goals as goal

pub returns-then-counts-i : goal.returns-then-counts-i
returns-then-counts-i c =
    parent_none _ _ _ c.if-counts-i.true

pub returns : goal.returns
returns c =
    parent_there _ _ _ c.if-counts-i.false c.start_before.ensures
