-- Each turn is one step of the definition: what is answered from the cell reached on is the whole answer.
use borrow.Author.Rules.{rules}
use Prim.Native.Nat.{◌+◌, ◌-◌}
use mathlib.Core.Path.{◌≡◌, sym, ap, ◌∙◌}
use native.Mathlib.Omega.{arith}
use Rattle.derivation.specs.Section.{proof_at}
use Rattle.rounds.specs.InPlace.{was_marked}
use Rattle.rounds.proofs.Loops.{were_none, were_not, were_turn}
use Rattle.evr0_pass.specs.Tables.{tables_by}
use Rattle.evr0_rounds.proofs.mark.were_marked.Goals as goal

pub loop-cell-init : goal.loop-cell-init
loop-cell-init c rules =
    let (f, e) = c.cells-first.ensures.numbers rules in
    let n : c.cells-first.result.1 - c.cells-first.result.0 ≡ (proof_at (tables_by rules c.args.tables) c.args.i).parent_count = omega (arith, e) in
    rw (n, f)

pub returns-then-not-was_marked : goal.returns-then-not-was_marked
returns-then-not-was_marked c rules =
    let l = c.loop-cell in
    sym (were_not (tables_by rules c.args.tables) c.args.round c.args.rounds.now _ l.cell (omega arith)
    (ap (was_marked c.args.round c.args.rounds.now) (sym (c.parent.ensures rules)) ∙ sym c.was_marked.ensures ∙ c.if-not-was_marked.true))
    ∙ l.invariant rules

pub loop-cell-preserved : goal.loop-cell-preserved
loop-cell-preserved c rules =
    let l = c.loop-cell in
    let left : c.cells-first.result.1 - (l.cell + 1) ≡ c.cells-first.result.1 - l.cell - 1 = omega arith in
    rw left
    (sym (were_turn (tables_by rules c.args.tables) c.args.round c.args.rounds.now (c.cells-first.result.1 - l.cell) l.cell (omega arith)
    (ap (was_marked c.args.round c.args.rounds.now) (sym (c.parent.ensures rules)) ∙ sym c.was_marked.ensures ∙ c.if-not-was_marked.false))
    ∙ l.invariant rules)

pub returns : goal.returns
returns c rules =
    let l = c.loop-cell in
    sym (were_none (tables_by rules c.args.tables) c.args.round c.args.rounds.now _ l.cell (omega arith)) ∙ l.invariant rules
