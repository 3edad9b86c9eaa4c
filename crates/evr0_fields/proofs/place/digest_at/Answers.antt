-- What is left of the bytes says whether the field is there (`digest_cut`, `digest_there`).
use Rattle.evr0_fields.proofs.PlaceLaws.{digest_cut, digest_there}
use Rattle.evr0_fields.proofs.place.digest_at.Goals as goal

pub returns-in_default : goal.returns-in_default
returns-in_default c =
    rw c.refuse.ensures (digest_cut _ _ c.tail.ensures c.in_default.ensures.cases)

pub returns : goal.returns
returns c =
    digest_there _ _ c.tail.ensures c.in-Some.ensures.cases
