-- Meets its contract: what it starts with, then the rest.
use Rattle.evidence_output.proofs.LineLaws.{line_written}
use Rattle.evidence_output.proofs.line.put_line.Goals as goal

pub returns : goal.returns
returns c = line_written _ c.put_bytes.ensures c.end_line.ensures
