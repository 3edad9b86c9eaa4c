-- The flat struct holds what is told of the record by the four, and the tables are as they were left.
use Rattle.falgnust.specs.EntryMaps.{flat_proposition}
use Rattle.falgnust.proofs.EntryLaws.{mapped}
use Rattle.falgnust.proofs.proposition.falgnust_proposition_number.Goals as goal

pub returns : goal.returns
returns c = mapped flat_proposition c.args.bytes.now c.args.cursor c.by_number.ensures c.into.ensures
