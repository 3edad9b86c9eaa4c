-- Meets its contract: the output fits, so that what was written is all of it.
use Rattle.std.proofs.Common.{arith}
use Rattle.evidence_output.proofs.OutputLength.{whole_output}
use Rattle.evidence.proofs.answer.Goals as goal

pub returns-then-input-lt-INPUT : goal.returns-then-input-lt-INPUT
returns-then-input-lt-INPUT g c told =
    let whole = whole_output c.args.input.now (λ i. (c.type_inv.input i).fits) (omega arith) c.evidence-written.ensures in
    (omega arith, rw (← whole) (c.tell-told.ensures told))
