-- By the rules that were loaded, or none, where the table is refused: `LeavesLaws`.
use mathlib.Core.Path.{refl, sym}
use Rattle.evr0_rounds.proofs.LeavesLaws.{refusal_ends, leaves_by, not_by}
use Rattle.evr0_rounds.proofs.section.mark_loaded.Goals as goal

pub returns-in-Ok-clause-leaves : goal.returns-in-Ok-clause-leaves
returns-in-Ok-clause-leaves c =
    leaves_by (sym c.in-Ok.ensures) c.mark_section.ensures.ends

pub returns-in-Err-clause-leaves : goal.returns-in-Err-clause-leaves
returns-in-Err-clause-leaves c =
    let k = c.clear.ensures.cleared in
    not_by (sym c.in-Err.ensures) (refusal_ends refl (record { propositions = k.propositions; proofs = k.proofs; depths = k.depths }))
