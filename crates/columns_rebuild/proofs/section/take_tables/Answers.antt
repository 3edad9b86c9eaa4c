-- Table by table.
use mathlib.Core.Path.{◌≡◌, sym, subst}
use Rattle.std.proofs.Common.{rules, Err}
use Rattle.columns_rebuild.specs.Maps.{TakesAs}
use Rattle.columns_rebuild.proofs.TookLaws.{first_refused, second_refused, third_refused, four_took}
use Rattle.columns_rebuild.proofs.section.take_tables.Goals as goal

pub returns-in_err-proofs_at-clause-takes : goal.returns-in_err-proofs_at-clause-takes
returns-in_err-proofs_at-clause-takes c =
    let e : c.from_residual.result ≡ Err c.in_err-proofs_at.field-0.0 = search rules in
    subst (TakesAs _ _ _ _ c.args.out.now c.take_table.new.out) (sym e) (first_refused c.args.announced c.in_err-proofs_at.ensures.takes)

pub returns-in_err-witnesses_at-clause-takes : goal.returns-in_err-witnesses_at-clause-takes
returns-in_err-witnesses_at-clause-takes c =
    let e : c.from_residual-in_err-witnesses_at.result ≡ Err c.in_err-witnesses_at.field-0.0 = search rules in
    subst (TakesAs _ _ _ _ c.args.out.now c.take_table-2.new.out) (sym e)
    (second_refused c.args.announced c.in_ok-proofs_at.ensures.takes c.in_err-witnesses_at.ensures.takes)

pub returns-in_err-parents_at-clause-takes : goal.returns-in_err-parents_at-clause-takes
returns-in_err-parents_at-clause-takes c =
    let e : c.from_residual-in_err-parents_at.result ≡ Err c.in_err-parents_at.field-0.0 = search rules in
    subst (TakesAs _ _ _ _ c.args.out.now c.take_table-3.new.out) (sym e)
    (third_refused c.args.announced c.in_ok-proofs_at.ensures.takes c.in_ok-witnesses_at.ensures.takes c.in_err-parents_at.ensures.takes)

pub returns-clause-takes : goal.returns-clause-takes
returns-clause-takes c =
    four_took c.args.announced _ _ c.args.out.now c.take_table.new.out c.take_table-2.new.out c.take_table-3.new.out c.take_table-4.new.out _ _ _ _
    c.in_ok-proofs_at.ensures.takes c.in_ok-witnesses_at.ensures.takes c.in_ok-parents_at.ensures.takes c.take_table-4.ensures.takes
