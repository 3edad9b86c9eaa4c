-- Meets its contract: too long, or what the decoder's answer and its lent tables say.
use mathlib.Core.Path.{◌≡◌, refl, sym, ap}
use mathlib.Core.List.{List}
use native.Mathlib.Omega.{arith}
use Prim.Native.Nat.{ℕ, ◌≤◌}
use lib.ListN.{length}
use lib.Seq.{length-take-le}
use Rattle.std.proofs.Common.{Ok}
use Rattle.local_format.proofs.OutLaws.{told}
use Rattle.local_format.specs.Maps.{answer_out}
use Rattle.evr0_section.specs.Section.{decode_section}
use Rattle.evr0_head.specs.Maps.{counts_out}
use Rattle.evr0.specs.Answer.{Answer, answer_of}
use Rattle.evr0.specs.AnswerMaps as maps
use Rattle.evr0.specs.AnswerMaps.{accepted_out}
use Rattle.evr0.specs.declared.section.Accepted.{Accepted}
use Rattle.evr0.specs.declared.section.DecodedEvr0.{DecodedEvr0}
use Rattle.evidence_output.specs.Output.{enough}
use Rattle.evidence_output.proofs.EvidenceLaws.{too_long_lem, refusal_printed, Given, given}
use Rattle.evidence_output.proofs.put_evidence.Goals as goal

-- of a section that is accepted
accepted : (input : List ℕ) (short : length input ≤ 65536) (d : DecodedEvr0) {a : Accepted} → maps.answer_out d ≡ answer_of 0 (decode_section enough input 0)
    → d.outcome ≡ Ok a → Given input short d.cursor (counts_out a.counts)
accepted input short d e h =
    given input short _ refl (ap (λ (a : Answer). a.cursor) e) (told (answer_out accepted_out) (ap (λ (a : Answer). a.outcome) e) h)

pub returns-then-input-gt65536 : goal.returns-then-input-gt65536
returns-then-input-gt65536 c =
    rw (← too_long_lem _ c.if-input-gt65536.true) c.put_bytes.ensures

pub slice_bounds-proofs-end : goal.slice_bounds-proofs-end
slice_bounds-proofs-end c =
    let d = c.decode_evr0_unmarked-decoded in
    let g = accepted c.args.input.now c.if-input-gt65536.false d.result d.ensures.answer c.in-Ok.is in
    omega (arith, g.few, d.auto.proofs)

pub slice_bounds-put_accepted-end : goal.slice_bounds-put_accepted-end
slice_bounds-put_accepted-end c =
    let d = c.decode_evr0_unmarked-decoded in
    let g = accepted c.args.input.now c.if-input-gt65536.false d.result d.ensures.answer c.in-Ok.is in
    sym (length-take-le c.in-Ok.accepted.counts.proofs d.new.proofs (omega (arith, g.few, d.auto.proofs)))

pub slice_bounds-depths-end : goal.slice_bounds-depths-end
slice_bounds-depths-end c =
    let d = c.decode_evr0_unmarked-decoded in
    let g = accepted c.args.input.now c.if-input-gt65536.false d.result d.ensures.answer c.in-Ok.is in
    omega (arith, g.few, d.auto.depths)

pub slice_bounds-put_accepted-end-in-Ok : goal.slice_bounds-put_accepted-end-in-Ok
slice_bounds-put_accepted-end-in-Ok c =
    let d = c.decode_evr0_unmarked-decoded in
    let g = accepted c.args.input.now c.if-input-gt65536.false d.result d.ensures.answer c.in-Ok.is in
    sym (length-take-le c.in-Ok.accepted.counts.proofs d.new.depths (omega (arith, g.few, d.auto.depths)))

pub put_accepted-requires : goal.put_accepted-requires
put_accepted-requires c =
    let d = c.decode_evr0_unmarked-decoded in
    let g = accepted c.args.input.now c.if-input-gt65536.false d.result d.ensures.answer c.in-Ok.is in
    (g.start, g.end)

pub returns-in-Err : goal.returns-in-Err
returns-in-Err c =
    let answered = ap (λ (a : Answer). a.outcome) c.decode_evr0_unmarked-decoded.ensures.answer in
    rw (← refusal_printed _ c.if-input-gt65536.false _ refl (told (answer_out accepted_out) answered c.in-Err.is)) c.put_line.ensures

pub returns-in-Ok : goal.returns-in-Ok
returns-in-Ok c =
    let d = c.decode_evr0_unmarked-decoded in
    let g = accepted c.args.input.now c.if-input-gt65536.false d.result d.ensures.answer c.in-Ok.is in
    rw (← g.lines _ _ d.ensures.tables.proofs d.ensures.tables.depths) c.put_accepted.ensures
