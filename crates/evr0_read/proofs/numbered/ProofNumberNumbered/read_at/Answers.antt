-- The proof with the number is read at its place.
use Rattle.evr0_read.proofs.TableLaws.{proof_read}
use Rattle.evr0_read.proofs.numbered.ProofNumberNumbered.read_at.Goals as goal

pub returns : goal.returns
returns c bytes cursor d of payload schema k e there at =
    rw (c.proof_at.ensures, payload, at) (proof_read of.rules of.room bytes cursor d of.is k e there)
