-- Meets its contract: the number, then the rest.
use Rattle.evidence_output.proofs.LineLaws.{line_written}
use Rattle.evidence_output.proofs.line.put_numbers.Goals as goal

pub returns : goal.returns
returns c = line_written _ c.put_decimal.ensures c.end_line.ensures
