-- The flat struct holds what is told of the record by the four, and the tables are as they were left.
use Rattle.falgnust.specs.EntryMaps.{flat_parent}
use Rattle.falgnust.proofs.EntryLaws.{mapped}
use Rattle.falgnust.proofs.parent.falgnust_parent_number.Goals as goal

pub returns : goal.returns
returns c = mapped flat_parent c.args.bytes.now c.args.cursor c.by_number.ensures c.into.ensures
