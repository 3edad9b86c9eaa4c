-- The tests of the definition, the proposition first.
use borrow.Author.Tests.{eq-eqb, ne_eqb}
use Prim.Native.Nat.{◌+◌}
use mathlib.Core.Path.{sym, ◌∙◌}
use Rattle.local_format.specs.Field.{le}
use Rattle.evr0_pass.specs.View.{proof_view}
use Rattle.evr0_authorised.proofs.authorised.authorises.Goals as goal

pub returns-then-le_at-proposition : goal.returns-then-le_at-proposition
unfolding proof_view
returns-then-le_at-proposition c rules =
    let a = c.args in
    rw (eq-eqb (le 4 a.payload.now (a.start + 4)) a.proposition.0 (sym c.le_at.ensures ∙ c.if-le_at-proposition.true)) (c.operates.ensures rules)

pub returns-else-le_at-proposition : goal.returns-else-le_at-proposition
unfolding proof_view
returns-else-le_at-proposition c rules =
    let a = c.args in
    rw (c.le_at.ensures, ne_eqb (le 4 a.payload.now (a.start + 4)) a.proposition.0 (λ e. c.if-le_at-proposition.false (c.le_at.ensures ∙ e)))
