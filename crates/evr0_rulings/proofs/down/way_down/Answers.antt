-- The way down of the section whose proof was found; a refusal is handed on.
use borrow.Author.Rules.{rules}
use mathlib.Core.Path.{◌≡◌, ap}
use Rattle.local_format.specs.Out.{ok, refused}
use Rattle.local_format.specs.Maps.{answer_out, refusal_out}
use Rattle.evr0_read.specs.Maps.{found_out}
use Rattle.evr0_read.proofs.AskLaws.{handed, there}
use Rattle.evr0_rulings.specs.Maps.{down_out}
use Rattle.evr0_rulings.proofs.AnswerLaws.{starts_above, told_of, held, cells_at}
use Rattle.evr0_rulings.proofs.down.way_down.Goals as goal

pub returns-in_err-end : goal.returns-in_err-end
returns-in_err-end c =
    let e : answer_out down_out c.from_residual.result ≡ refused (refusal_out c.in_err-end.field-0.0) = search rules in
    rw e (handed c.find.ensures _ (λ r. r) (ap (answer_out found_out) c.in_err-end.was))

pub returns : goal.returns
returns c =
    let finding = c.find.ensures in
    let is = ap (answer_out found_out) c.in_ok-end.was in
    let h = held _ _ _ _ _ finding is c.payload_of-payload.ensures c.front.ensures in
    told_of _ _ _ _ _ finding is _ (λ r. r)
    (ap ok (c.down_from.ensures _ h (cells_at _ _ _ _ _ finding is c.payload_of-payload.ensures c.start_before-cells.ensures)
    (starts_above _ _ _ h _ (there _ _ _ _ _ finding is).at)))
