-- Meets its contract: the lent tables are cleared past what `read_four` left at their front, or wholly.
use mathlib.Core.Path.{refl}
use Rattle.evr0_tables.proofs.PayloadLaws.{cleared, cleared_past}
use Rattle.evr0_tables.proofs.payload.read_tables.Goals as goal

pub returns-in-Ok-clause-reads : goal.returns-in-Ok-clause-reads
returns-in-Ok-clause-reads c head =
    let b = c.in-Ok.ensures in
    rw c.in-Ok.is (cleared_past _ _ _ _ _ head (b.begins head) b.same.room c.clear_from.ensures c.clear_from-in-Ok.ensures refl)

pub returns-in-Err-clause-reads : goal.returns-in-Err-clause-reads
returns-in-Err-clause-reads c head =
    rw c.in-Err.is (cleared (c.in-Err.ensures.begins head) c.in-Err.ensures.same.room c.clear.ensures.cleared)
