-- By the rules that were loaded, or none, where the table is refused: `DecodeLaws`.
use mathlib.Core.Path.{sym}
use Rattle.evr0_rules.specs.Maps.{given_out}
use Rattle.evr0.proofs.DecodeLaws.{ends_by, not_by}
use Rattle.evr0.proofs.section.decode_loaded.Goals as goal

pub returns-in-Ok-clause-ends : goal.returns-in-Ok-clause-ends
returns-in-Ok-clause-ends c =
    ends_by (given_out c.args.rules) (sym c.in-Ok.ensures) c.decode.ensures.ends

pub returns-in-Err-clause-ends : goal.returns-in-Err-clause-ends
returns-in-Err-clause-ends c =
    let k = c.clear.ensures.cleared in
    not_by (given_out c.args.rules) (sym c.in-Err.ensures) c.refused_section.ensures
    (record { propositions = k.propositions; proofs = k.proofs; depths = k.depths })
