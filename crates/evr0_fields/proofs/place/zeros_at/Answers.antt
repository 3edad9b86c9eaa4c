-- What is left of the bytes says whether the field is there (`zeros_cut`, `zeros_there`).
use Rattle.std.proofs.Common.{rules}
use Rattle.evr0_fields.proofs.PlaceLaws.{zeros_cut, zeros_there}
use Rattle.evr0_fields.proofs.place.zeros_at.Goals as goal

pub returns-in_default : goal.returns-in_default
returns-in_default c =
    rw c.refuse.ensures (zeros_cut _ _ c.tail.ensures c.in_default.ensures.cases)

pub returns-in_err-check : goal.returns-in_err-check
returns-in_err-check c =
    rw (← zeros_there _ _ c.tail.ensures c.in-Some.ensures.cases, ← c.eq.ensures, ← c.in_err-check.ensures) (search rules)

pub returns : goal.returns
returns c =
    rw (← zeros_there _ _ c.tail.ensures c.in-Some.ensures.cases, ← c.eq.ensures, ← c.in_ok-check.ensures)
