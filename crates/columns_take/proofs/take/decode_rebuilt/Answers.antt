-- What the decoder leaves, with the output cleared whole or past the section.
use mathlib.Core.Path.{sym, ap}
use lib.ListN.{take}
use lib.Seq.{length-take-le}
use Rattle.local_format.specs.Maps as format
use Rattle.evr0_rules.specs.Maps.{given_out}
use Rattle.evr0.specs.Answer.{lent_of, LeavesBy}
use Rattle.evr0.specs.AnswerMaps.{accepted_out, answer_out}
use Rattle.columns_take.proofs.TakeLaws.{decoder_refuses, decoder_accepts}
use Rattle.columns_take.proofs.take.decode_rebuilt.Goals as goal

pub slice_bounds-decode_evr0_by-end-2 : goal.slice_bounds-decode_evr0_by-end-2
slice_bounds-decode_evr0_by-end-2 c =
    sym (length-take-le c.args.len c.args.output.now c.requires)

pub returns-in-Err : goal.returns-in-Err
returns-in-Err c =
    let a = c.args in
    let d = c.decode_evr0_by-decoded in
    let leaves : LeavesBy (given_out a.rules) (take a.len a.output.now) 0 (lent_of a.propositions.now a.proofs.now a.depths.now)
    (lent_of d.new.propositions d.new.proofs d.new.depths) (answer_out d.result) = d.ensures in
    decoder_refuses leaves a.output.now (ap (format.answer_out accepted_out) c.in-Err.is) c.clear_from.ensures

pub returns-in-Ok : goal.returns-in-Ok
returns-in-Ok c =
    let a = c.args in
    let d = c.decode_evr0_by-decoded in
    let leaves : LeavesBy (given_out a.rules) (take a.len a.output.now) 0 (lent_of a.propositions.now a.proofs.now a.depths.now)
    (lent_of d.new.propositions d.new.proofs d.new.depths) (answer_out d.result) = d.ensures in
    decoder_accepts leaves a.output.now (ap (format.answer_out accepted_out) c.in-Ok.is) (sym (length-take-le a.len a.output.now c.requires))
    c.clear_from-in-Ok.ensures
