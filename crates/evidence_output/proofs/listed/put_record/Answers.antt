-- Meets its contract: the record is read at its start, and its line written.
use native.Mathlib.Omega.{arith}
use Rattle.byte_output.proofs.WrittenLaws.{writes_none}
use Rattle.evidence_output.specs.Output.{proof_line}
use Rattle.evidence_output.proofs.listed.put_record.Goals as goal

pub returns-in_default : goal.returns-in_default
returns-in_default c = rw (← c.tail.ensures, ← c.in_default.ensures) (writes_none _ (omega arith) (omega arith))

pub returns : goal.returns
unfolding proof_line
returns c = rw (← c.tail.ensures, ← c.in-Ok.ensures) (rw (c.place-2.ensures, c.place.ensures) at c.put_numbers.ensures)
