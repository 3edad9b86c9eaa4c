-- Meets its contract. The invariant: the numbers before are written.
use native.Mathlib.Omega.{arith}
use native.Mathlib.Numerals.{add-one}
use lib.Seq.{take-suc, take_all}
use Rattle.byte_output.proofs.WrittenLaws.{writes_none, writes_append}
use Rattle.evidence_output.specs.Output.{spaced}
use Rattle.evidence_output.proofs.LineLaws.{spaced_append}
use Rattle.evidence_output.proofs.line.end_line.Goals as goal

pub loop-number-init : goal.loop-number-init
unfolding spaced
loop-number-init c = writes_none _ (omega arith) (omega arith)

pub loop-number-preserved : goal.loop-number-preserved
loop-number-preserved c =
    let i = c.loop-number.number-index in
    rw (add-one i, take-suc c.args.numbers.now i 0 (omega arith), spaced_append) (writes_append c.loop-number.invariant c.put_number.ensures)

pub returns : goal.returns
returns c =
    writes_append (rw (take_all c.loop-number.number-index c.args.numbers.now (omega arith)) at c.loop-number.invariant) c.put.ensures
