-- Meets its contract: the opening is refused, or its payload is decoded.
use mathlib.Core.Path.{refl}
use Rattle.evr0.proofs.AnswerLaws.{refusal_ends}
use Rattle.evr0.proofs.section.decode.Goals as goal

pub decode_at-requires : goal.decode_at-requires
decode_at-requires c =
    c.in-Ok.ensures.frame _ refl

pub returns-in-Err-clause-ends : goal.returns-in-Err-clause-ends
returns-in-Err-clause-ends c =
    let k = c.clear.ensures.cleared in
    refusal_ends (c.in-Err.ensures.refusal _ refl _ _) (record { propositions = k.propositions; proofs = k.proofs; depths = k.depths })
    c.refused_section.ensures
