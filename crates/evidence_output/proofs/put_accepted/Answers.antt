-- Meets its contract: the first line, then a line for each proof.
use Rattle.byte_output.proofs.WrittenLaws.{writes_append}
use Rattle.evidence_output.proofs.put_accepted.Goals as goal

pub returns : goal.returns
returns c =
    writes_append c.put_head.ensures c.put_proofs.ensures
