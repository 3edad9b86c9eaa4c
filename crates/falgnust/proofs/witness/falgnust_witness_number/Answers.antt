-- The flat struct holds what is told of the record by the four, and the tables are as they were left.
use Rattle.evr0_read.specs.Maps.{witness_beside}
use Rattle.falgnust.specs.EntryMaps.{flat_witness}
use Rattle.falgnust.proofs.EntryLaws.{mapped}
use Rattle.falgnust.proofs.witness.falgnust_witness_number.Goals as goal

pub returns : goal.returns
returns c = mapped (λ x. flat_witness (witness_beside x)) c.args.bytes.now c.args.cursor c.by_number.ensures c.into.ensures
