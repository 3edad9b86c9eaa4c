-- Meets its contract: the kit's digits are the numeral, and each is written. The invariant: the digits before are written.
use mathlib.Core.Path.{◌∙◌}
use native.Mathlib.Omega.{arith}
use native.Mathlib.Numerals.{add-one}
use lib.ListN.{take}
use lib.Seq.{take-suc, take_all}
use Rattle.byte_output.proofs.WrittenLaws.{writes_none, writes_append}
use Rattle.evidence_output.proofs.DecimalLaws.{fewest_decimal}
use Rattle.evidence_output.proofs.line.put_decimal.Goals as goal

pub loop-digit-init : goal.loop-digit-init
loop-digit-init c = writes_none _ (omega arith) (omega arith)

pub loop-digit-preserved : goal.loop-digit-preserved
loop-digit-preserved c =
    let i = c.loop-digit.digit-index in
    rw (add-one i, take-suc (take c.decimal-len.result c.decimal-len.new.out) i 0 (omega arith)) (writes_append c.loop-digit.invariant c.put.ensures)

pub returns : goal.returns
returns c =
    let d = c.decimal-len in
    rw (← (d.ensures.digits ∙ fewest_decimal _ _ d.ensures.len))
    (rw (take_all c.loop-digit.digit-index (take d.result d.new.out) (omega arith)) at c.loop-digit.invariant)
