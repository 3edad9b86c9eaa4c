-- The witness with the number is read at its place.
use Rattle.evr0_read.proofs.TableLaws.{witness_read}
use Rattle.evr0_read.proofs.numbered.WitnessNumberNumbered.read_at.Goals as goal

pub returns : goal.returns
returns c bytes cursor d of payload schema k e there at =
    rw (c.witness_at.ensures, payload, schema, at) (witness_read of.rules of.room bytes cursor d of.is k e there)
