-- The opening is refused, or its payload is decoded.
use mathlib.Core.Path.{refl}
use Rattle.std.proofs.Common.{rules}
use Rattle.falgnust.proofs.SectionLaws.{refuses_unmarked}
use Rattle.falgnust.proofs.section.falgnust_decode_evr0_unmarked.Goals as goal

pub opened-requires : goal.opened-requires
opened-requires c =
    c.in-Ok.ensures.frame _ refl

pub returns : goal.returns
returns c =
    refuses_unmarked (c.in-Err.ensures.refusal _ refl _ _) (search rules) c.clear.ensures c.clear-in-Err.ensures c.clear-in-Err-2.ensures
