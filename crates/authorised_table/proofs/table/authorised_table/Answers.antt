-- What the decoder with marks leaves, with the rest of the starts and the flags, by `TellsLaws`.
use mathlib.Core.Path.{ap}
use native.Mathlib.Omega.{arith}
use Rattle.local_format.specs.Maps.{answer_out}
use Rattle.evr0.specs.AnswerMaps.{accepted_out}
use Rattle.authorised_table.proofs.TellsLaws.{flags_filled, due_of, left_refused, left_accepted}
use Rattle.authorised_table.proofs.table.authorised_table.Goals as goal

pub tables_of-tables-requires : goal.tables_of-tables-requires
tables_of-tables-requires c =
    let a = c.args in
    let d = c.decode_evr0_section_by-decoded in
    (d.new.marks, due_of a.propositions.now a.authorised.now c.min-room.ensures d.ensures d.auto.propositions (ap (answer_out accepted_out) c.in-Ok.is))

pub flag_proofs-requires : goal.flag_proofs-requires
flag_proofs-requires c =
    let a = c.args in
    let d = c.decode_evr0_section_by-decoded in
    let of = due_of a.propositions.now a.authorised.now c.min-room.ensures d.ensures d.auto.propositions (ap (answer_out accepted_out) c.in-Ok.is) in
    omega (arith, of.due.fits, c.tables_of-tables.ensures.total)

pub returns-in-Err : goal.returns-in-Err
returns-in-Err c =
    let a = c.args in
    let d = c.decode_evr0_section_by-decoded in
    left_refused a.propositions.now a.authorised.now c.min-room.ensures d.ensures d.auto.propositions c.clear_from.ensures
    (ap (answer_out accepted_out) c.in-Err.is) c.clear.ensures

pub returns-in-Ok : goal.returns-in-Ok
returns-in-Ok c =
    let a = c.args in
    let d = c.decode_evr0_section_by-decoded in
    let e = ap (answer_out accepted_out) c.in-Ok.is in
    let of = due_of a.propositions.now a.authorised.now c.min-room.ensures d.ensures d.auto.propositions e in
    left_accepted a.propositions.now a.authorised.now c.min-room.ensures d.ensures d.auto.propositions e c.clear_from.ensures
    (λ begins fits. flags_filled of _ _ _ (c.tables_of-tables.ensures.is _ of) _ _ begins fits c.clear-in-Ok.ensures
    (c.flag_proofs.ensures of.due.rules))
