-- The record at the place that was found is the one with the number; a refusal is handed on.
use Rattle.std.proofs.Common.{rules}
use mathlib.Core.Path.{◌≡◌, ap}
use Rattle.local_format.specs.Out.{refused}
use Rattle.local_format.specs.Maps.{answer_out, refusal_out}
use Rattle.evr0_read.specs.Maps.{found_out, entry_out}
use Rattle.evr0_read.proofs.AskLaws.{handed, read_there}
use Rattle.evr0_read.proofs.ask.by_number.Goals as goal

pub returns-in_err-found : goal.returns-in_err-found
returns-in_err-found g c =
    let e : answer_out (entry_out g.N.Numbered.record_out) c.from_residual.result ≡ refused (refusal_out c.in_err-found.field-0.0) = search rules in
    rw e (handed c.find.ensures _ (λ r. r) (ap (answer_out found_out) c.in_err-found.was))

pub returns : goal.returns
returns g c =
    read_there _ _ _ _ _ c.find.ensures _ (ap (answer_out found_out) c.in_ok-found.was) c.payload_of-payload.ensures c.read_at.ensures
