-- The flat struct holds what is told of the way by the four, and the tables are as they were left.
use Rattle.falgnust.specs.EntryMaps.{flat_way}
use Rattle.falgnust.proofs.EntryLaws.{mapped}
use Rattle.falgnust.proofs.way_down.falgnust_way_down.Goals as goal

pub returns : goal.returns
returns c = mapped flat_way c.args.bytes.now c.args.cursor c.way_down.ensures c.into.ensures
