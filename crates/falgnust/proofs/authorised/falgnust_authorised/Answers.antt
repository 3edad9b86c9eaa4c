-- The flat struct holds what is told of the proposition by the four, and the tables are as they were left.
use mathlib.Core.Path.{ap, ◌∙◌}
use Rattle.evr0_authorised.proofs.AuthorisedLaws.{by_four}
use Rattle.falgnust.specs.EntryMaps.{flat_authorised}
use Rattle.falgnust.proofs.authorised.falgnust_authorised.Goals as goal

pub returns : goal.returns
returns c =
    let told = c.authorised.ensures in
    by_four c.args.bytes.now c.args.cursor (record { answer = c.into.ensures ∙ ap flat_authorised told.answer; tables = told.tables })
