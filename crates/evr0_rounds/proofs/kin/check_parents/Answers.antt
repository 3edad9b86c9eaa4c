-- Each turn is one step of the definition: what is answered from the cell reached on is the whole answer.
use borrow.Author.Rules.{rules}
use Prim.Native.Nat.{ℕ, ◌+◌, ◌-◌}
use mathlib.Core.Path.{◌≡◌, sym, ap, ◌∙◌}
use mathlib.Core.List.{[]}
use native.Mathlib.Omega.{arith}
use Rattle.local_format.specs.Out.{Out, ok, refused, ◌>>◌}
use Rattle.local_format.specs.Maps.{answer_out, refusal_out}
use Rattle.derivation.specs.Section.{proof_at}
use Rattle.derivation.proofs.Laws.{parents_none}
use Rattle.evr0_pass.specs.Maps.{layout_out}
use Rattle.evr0_pass.specs.Tables.{tables_by}
use Rattle.evr0_rounds.proofs.TablesLaws.{number_is, agree_is}
use Rattle.evr0_rounds.proofs.KinLaws.{begins, step_25, step_26, step_on}
use Rattle.evr0_rounds.proofs.kin.check_parents.Goals as goal

abbrev pass : Out ℕ → Out (Unit {0})
pass x = x >> ok tt

pub loop-cell-init : goal.loop-cell-init
loop-cell-init c rs =
    let t = c.args.tables in
    begins t.layout.parents_at (tables_by rs t) (proof_at (tables_by rs t) c.args.i)
    (number_is rs t.payload.now t.starts.now (layout_out t.layout) c.args.i c.requires (t.there.proofs c.args.i c.requires))
    (c.cells-first.ensures.numbers rs).0 (c.cells-first.ensures.numbers rs).1

pub returns-in_err-check : goal.returns-in_err-check
returns-in_err-check c rs =
    let t = c.args.tables in
    let e : answer_out (λ done. done) c.from_residual.result ≡ refused (refusal_out c.in_err-check.field-0.0) = search rules in
    let number = number_is rs t.payload.now t.starts.now (layout_out t.layout) c.args.i c.requires (t.there.proofs c.args.i c.requires) in
    rw e
    (ap pass (sym (step_25 t.layout.parents_at (tables_by rs t) (proof_at (tables_by rs t) c.args.i) number _ c.loop-cell.cell c.loop-cell.least
    (omega arith) (c.parent-found.ensures rs) c.in_err-check.ensures)
    ∙ c.loop-cell.invariant rs))

pub returns-in_err-check-2 : goal.returns-in_err-check-2
returns-in_err-check-2 c rs =
    let t = c.args.tables in
    let e : answer_out (λ done. done) c.from_residual-in_err-check-2.result ≡ refused (refusal_out c.in_err-check-2.field-0.0) = search rules in
    let number = number_is rs t.payload.now t.starts.now (layout_out t.layout) c.args.i c.requires (t.there.proofs c.args.i c.requires) in
    let agree = agree_is rs t.payload.now t.starts.now (layout_out t.layout) c.args.i c.requires c.parent-found.result (search rules)
    c.le_at.ensures c.after_name.ensures c.le_at-authority.ensures c.agrees.ensures in
    rw e
    (ap pass (sym (step_26 t.layout.parents_at (tables_by rs t) (proof_at (tables_by rs t) c.args.i) number _ c.loop-cell.cell c.loop-cell.least
    (omega arith) (c.parent-found.ensures rs) c.in_ok-check.ensures agree c.in_err-check-2.ensures)
    ∙ c.loop-cell.invariant rs))

pub loop-cell-preserved : goal.loop-cell-preserved
loop-cell-preserved c rs =
    let t = c.args.tables in
    let l = c.loop-cell in
    let number = number_is rs t.payload.now t.starts.now (layout_out t.layout) c.args.i c.requires (t.there.proofs c.args.i c.requires) in
    let agree = agree_is rs t.payload.now t.starts.now (layout_out t.layout) c.args.i c.requires c.parent-found.result (search rules)
    c.le_at.ensures c.after_name.ensures c.le_at-authority.ensures c.agrees.ensures in
    let left : c.cells-first.result.1 - (l.cell + 1) ≡ c.cells-first.result.1 - l.cell - 1 = omega arith in
    rw left
    (sym (step_on t.layout.parents_at (tables_by rs t) (proof_at (tables_by rs t) c.args.i) number (c.cells-first.result.1 - l.cell) l.cell l.least
    (omega arith) (c.parent-found.ensures rs) c.in_ok-check.ensures agree c.in_ok-check-2.ensures)
    ∙ l.invariant rs)

pub returns : goal.returns
returns c rs =
    let t = c.args.tables in
    let l = c.loop-cell in
    ap pass (sym (parents_none t.layout.parents_at (tables_by rs t) (proof_at (tables_by rs t) c.args.i) [] _ l.cell l.least 0 (omega arith))
    ∙ l.invariant rs)
