-- Meets its contract: a space, then the numeral.
use Rattle.evidence_output.proofs.LineLaws.{number_written}
use Rattle.evidence_output.proofs.line.put_number.Goals as goal

pub returns : goal.returns
returns c = number_written c.args.n c.put.ensures c.put_decimal.ensures
