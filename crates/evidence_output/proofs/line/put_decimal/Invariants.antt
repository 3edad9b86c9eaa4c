-- Meets its contract. The invariant: the digits before are written.
use lib.ListN.{take}
use Rattle.byte_output.specs.Maps.{Writes}
use Rattle.evidence_output.proofs.line.put_decimal.Given as goal

abbrev pub invariant-loop-digit : goal.invariant-loop-digit
invariant-loop-digit l = Writes l.initial.out (take l.digit-index l.digit-items) l.out
