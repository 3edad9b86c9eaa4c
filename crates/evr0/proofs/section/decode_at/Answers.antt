-- Meets its contract: what is left of the payload is told by its place in the bytes, by `DecodeLaws`.
use native.Mathlib.Omega.{arith}
use mathlib.Core.Path.{ap, ◌∙◌}
use Rattle.local_format.specs.Out.{refused}
use Rattle.evr0_section.proofs.SectionSteps.{frame_place}
use Rattle.evr0.specs.Answer.{answer_of}
use Rattle.evr0.proofs.DecodeLaws.{payload_refused, payload_accepted}
use Rattle.evr0.proofs.section.decode_at.Goals as goal

pub overflow_add-end : goal.overflow_add-end
overflow_add-end c =
    omega (arith, (frame_place _ _ c.requires).1)

pub slice_bounds-section_in-end : goal.slice_bounds-section_in-end
slice_bounds-section_in-end c =
    (frame_place _ _ c.requires).1

pub returns-in-Ok-clause-ends : goal.returns-in-Ok-clause-ends
returns-in-Ok-clause-ends c =
    payload_accepted _ _ _ _ _ _ c.requires (c.in-Ok.ensures.passes _) c.accepted_section.ensures

pub returns-in-Err-clause-ends : goal.returns-in-Err-clause-ends
returns-in-Err-clause-ends c =
    payload_refused _ _ _ _ _ _ c.requires (c.in-Err.ensures.passes _) (omega arith)
    (c.refused_section.ensures ∙ ap (λ q. answer_of c.args.cursor (refused q)) c.based.ensures)
