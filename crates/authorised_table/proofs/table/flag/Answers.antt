-- The tests of the definition, by `FlagLaws`.
use mathlib.Core.Path.{sym, ◌∙◌}
use Rattle.evr0_pass.specs.View.{proof_view}
use Rattle.authorised_table.proofs.FlagLaws.{no_operation, set_here, none_there}
use Rattle.authorised_table.proofs.table.flag.Goals as goal

pub returns-then-proposition-authorised : goal.returns-then-proposition-authorised
unfolding proof_view
returns-then-proposition-authorised c rules =
    let a = c.args in
    set_here (proof_view rules a.payload.now a.start) a.mark a.authorised.now (sym (c.operates.ensures rules) ∙ c.if-operates.true)
    _ c.le_at-proposition.ensures

pub returns-else-proposition-authorised : goal.returns-else-proposition-authorised
unfolding proof_view
returns-else-proposition-authorised c rules =
    let a = c.args in
    none_there (proof_view rules a.payload.now a.start) a.mark a.authorised.now (sym (c.operates.ensures rules) ∙ c.if-operates.true)
    _ c.le_at-proposition.ensures c.if-proposition-authorised.false

pub returns-else-operates : goal.returns-else-operates
returns-else-operates c rules =
    let a = c.args in
    no_operation (proof_view rules a.payload.now a.start) a.mark a.authorised.now (sym (c.operates.ensures rules) ∙ c.if-operates.false)
