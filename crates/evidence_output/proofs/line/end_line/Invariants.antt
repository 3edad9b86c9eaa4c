-- Meets its contract. The invariant: the numbers before are written.
use lib.ListN.{take}
use Rattle.byte_output.specs.Maps.{Writes}
use Rattle.evidence_output.specs.Output.{spaced}
use Rattle.evidence_output.proofs.line.end_line.Given as goal

abbrev pub invariant-loop-number : goal.invariant-loop-number
invariant-loop-number l = Writes l.initial.out (spaced (take l.number-index l.numbers)) l.out
