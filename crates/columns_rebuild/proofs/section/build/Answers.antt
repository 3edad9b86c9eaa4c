-- The head, the tables, and then no byte left over.
use mathlib.Core.Path.{◌≡◌, sym, ap, subst, ◌∙◌}
use Rattle.std.proofs.Common.{rules, Err}
use Rattle.local_format.specs.Refusal.{Refusal}
use Rattle.local_format.specs.Out.{refused}
use Rattle.columns_rebuild.specs.Maps.{Builds}
use Rattle.columns_rebuild.proofs.TookLaws.{head_refused, rest_refused, left_over, whole_took}
use Rattle.columns_rebuild.proofs.section.build.Goals as goal

pub returns-in_err-head-clause-builds : goal.returns-in_err-head-clause-builds
returns-in_err-head-clause-builds c =
    let e : c.from_residual.result ≡ Err c.in_err-head.field-0.0 = search rules in
    subst (Builds c.args.columns.now c.args.out.now c.take_head.new.out) (sym e) (head_refused c.in_err-head.ensures.takes)

pub returns-in_err-end-clause-builds : goal.returns-in_err-end-clause-builds
returns-in_err-end-clause-builds c =
    let e : c.from_residual-in_err-end.result ≡ Err c.in_err-end.field-0.0 = search rules in
    subst (Builds c.args.columns.now c.args.out.now c.take_tables.new.out) (sym e)
    (rest_refused c.in_ok-head.ensures.takes c.in_err-end.ensures.takes)

pub returns-then-end-columns-clause-builds : goal.returns-then-end-columns-clause-builds
returns-then-end-columns-clause-builds c =
    left_over c.in_ok-head.ensures.takes c.in_ok-end.ensures.takes c.if-end-columns.true ∙ ap (λ (r : Refusal). refused r) (sym c.refuse.ensures)

pub returns-clause-builds : goal.returns-clause-builds
returns-clause-builds c =
    whole_took c.in_ok-head.ensures.takes c.in_ok-end.ensures.takes c.if-end-columns.false
