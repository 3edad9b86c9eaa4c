-- What the decoder without marks leaves, with the rest of the depths and the marks, by `LeavesLaws`.
use mathlib.Core.Path.{ap, ◌∙◌}
use native.Mathlib.Omega.{arith}
use lib.ListN.{length}
use Rattle.lent_table.specs.Lent.{lent}
use Rattle.derivation.specs.Section.{Section}
use Rattle.derivation.specs.Mark.{marks}
use Rattle.local_format.specs.Maps.{answer_out}
use Rattle.evr0.specs.AnswerMaps.{accepted_out}
use Rattle.evr0_marks.proofs.LeavesLaws.{due_of, left_refused, left_accepted}
use Rattle.evr0_marks.proofs.section.decode_evr0_section_by.Goals as goal

pub tables_of-tables-requires : goal.tables_of-tables-requires
tables_of-tables-requires c =
    let a = c.args in
    let d = c.decode_evr0_by-decoded in
    (c.args.marks.now, due_of a.depths.now a.marks.now c.min-room.ensures d.ensures d.auto.depths (ap (answer_out accepted_out) c.in-Ok.is))

pub mark_proofs-requires : goal.mark_proofs-requires
mark_proofs-requires c =
    let a = c.args in
    let d = c.decode_evr0_by-decoded in
    let of = due_of a.depths.now a.marks.now c.min-room.ensures d.ensures d.auto.depths (ap (answer_out accepted_out) c.in-Ok.is) in
    omega (arith, of.due.fits, c.tables_of-tables.ensures.total)

pub returns-in-Err : goal.returns-in-Err
returns-in-Err c =
    let a = c.args in
    let d = c.decode_evr0_by-decoded in
    left_refused a.depths.now a.marks.now c.min-room.ensures d.ensures d.auto.depths c.clear_from.ensures (ap (answer_out accepted_out) c.in-Err.is)
    c.clear_from-in-Err.ensures

pub returns-in-Ok : goal.returns-in-Ok
returns-in-Ok c =
    let a = c.args in
    let d = c.decode_evr0_by-decoded in
    let e = ap (answer_out accepted_out) c.in-Ok.is in
    let of = due_of a.depths.now a.marks.now c.min-room.ensures d.ensures d.auto.depths e in
    left_accepted a.depths.now a.marks.now c.min-room.ensures d.ensures d.auto.depths e c.clear_from.ensures
    (c.mark_proofs.ensures of.due.rules ∙ ap (λ (s : Section). lent (length a.marks.now) (marks s)) (c.tables_of-tables.ensures.is _ of))
