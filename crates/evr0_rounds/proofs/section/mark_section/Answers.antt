-- Meets its contract: the frame is refused, or the rounds of its payload are made, by `LeavesLaws`.
use mathlib.Core.Path.{◌≡◌, refl, sym}
use native.Mathlib.Omega.{arith}
use Rattle.std.proofs.Common.{rules}
use Rattle.local_format.specs.Out.{refused}
use Rattle.local_format.specs.Maps.{refusal_out, answer_out}
use Rattle.evr0_section.proofs.SectionSteps.{frame_place}
use Rattle.evr0_tables.proofs.RowLaws.{read_there, refused_there}
use Rattle.evr0_rounds.specs.AnswerMaps.{marked_out}
use Rattle.evr0_rounds.proofs.LeavesLaws.{no_frame, payload_refused, payload_marked, told_as}
use Rattle.evr0_rounds.proofs.section.mark_section.Goals as goal

pub overflow_add-end : goal.overflow_add-end
overflow_add-end c =
    omega (arith, (frame_place _ _ (sym c.in-Ok.ensures)).1)

pub slice_bounds-mark_payload-end : goal.slice_bounds-mark_payload-end
slice_bounds-mark_payload-end c =
    (frame_place _ _ (sym c.in-Ok.ensures)).1

pub returns-in_err-proofs-in-Ok-clause-ends : goal.returns-in_err-proofs-in-Ok-clause-ends
returns-in_err-proofs-in-Ok-clause-ends c =
    let q = refused_there (λ n. n) _ _ refl c.in_err-proofs-in-Ok.ensures in
    let g : answer_out marked_out c.from_residual.result ≡ refused (refusal_out c.in_err-proofs-in-Ok.field-0.0) = search rules in
    rw (g, q.2) (payload_refused _ _ _ _ _ _ (sym c.in-Ok.ensures) (told_as (c.mark_payload.ensures.passes _) q.1) (omega arith))

pub returns-in-Err-clause-ends : goal.returns-in-Err-clause-ends
returns-in-Err-clause-ends c =
    let k = c.clear.ensures.cleared in
    no_frame _ _ _ _ _ c.in-Err.ensures (record { propositions = k.propositions; proofs = k.proofs; depths = k.depths })

pub returns-in_ok-proofs-in-Ok-clause-ends : goal.returns-in_ok-proofs-in-Ok-clause-ends
returns-in_ok-proofs-in-Ok-clause-ends c =
    let h = read_there (λ n. n) _ _ refl c.in_ok-proofs-in-Ok.ensures in
    payload_marked _ _ _ _ _ _ (sym c.in-Ok.ensures) (told_as (c.mark_payload.ensures.passes _) h)
