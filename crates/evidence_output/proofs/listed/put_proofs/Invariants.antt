-- Meets its contract. The invariant: the lines of the starts and depths before are written.
use lib.ListN.{length, take}
use Rattle.byte_output.specs.Maps.{Writes}
use Rattle.evidence_output.specs.Listed.{lines_at}
use Rattle.evidence_output.proofs.listed.put_proofs.Given as goal

abbrev pub invariant-loop-start : goal.invariant-loop-start
invariant-loop-start l =
    Writes l.initial.out (lines_at l.payload (take (length l.yielded) l.starts) (take (length l.yielded) l.depths)) l.out
