-- Each turn is one step of the definition: what is answered from the cell reached on is the whole answer.
use Prim.Native.Nat.{◌+◌, ◌-◌, ◌<◌}
use mathlib.Core.Path.{◌≡◌, sym, ◌∙◌}
use mathlib.Core.List.{List}
use native.Mathlib.Omega.{arith}
use lib.Seq.{get_or-take}
use Rattle.std.proofs.Common.{rules}
use Rattle.derivation.specs.Rule.{Rule}
use Rattle.derivation.specs.Section.{parent_at}
use Rattle.derivation.specs.Pass as pass
use Rattle.derivation.proofs.Laws.{parents_none}
use Rattle.evr0_pass.specs.Maps.{layout_out, proof_out}
use Rattle.evr0_pass.specs.Tables.{tables_by}
use Rattle.evr0_pass.proofs.ViewLaws.{agrees_at}
use Rattle.evr0_pass.proofs.StepLaws.{rises_below, parents_25, parents_26, parents_on}
use Rattle.evr0_pass.proofs.pass.Tables.parents_from.Goals as goal

pub returns-in_err-check : goal.returns-in_err-check
returns-in_err-check c rs rule =
    let is = sym (c.parent-parent.ensures rs) in
    rw (← (parents_25 _ _ _ _ _ _ _ _ _ _ (omega arith) is c.place-number.ensures c.in_err-check.ensures ∙ c.loop-cell.invariant.1 rs rule)) (search rules)

pub returns-in_err-check-2 : goal.returns-in_err-check-2
returns-in_err-check-2 c rs rule =
    let a = c.args in
    let is = sym (c.parent-parent.ensures rs) in
    let rises : c.parent-parent.result < c.place-number.result = rises_below _ _ _ _ c.in_ok-check.ensures in
    let agree : pass.agrees (tables_by rs a.self.now) (proof_out rule a.proof) c.parent-parent.result ≡ c.agrees-agree.result =
    agrees_at rs _ _ (layout_out a.self.now.layout) (proof_out rule a.proof) _ (omega (arith, c.requires.started)) ∙ sym c.agrees-agree.ensures in
    rw (← (parents_26 _ _ _ _ _ _ _ _ _ _ (omega arith) is c.place-number.ensures c.in_ok-check.ensures _ agree c.in_err-check-2.ensures
    ∙ c.loop-cell.invariant.1 rs rule)) (search rules)

pub loop-cell-preserved : goal.loop-cell-preserved
loop-cell-preserved c =
    let a = c.args in
    let is : (rs : List Rule) → parent_at (tables_by rs a.self.now) c.loop-cell.cell ≡ c.parent-parent.result = λ rs. sym (c.parent-parent.ensures rs) in
    let rises : c.parent-parent.result < c.place-number.result = rises_below _ _ _ _ c.in_ok-check.ensures in
    let below : c.parent-parent.result < a.proof.proof_id.0 = omega arith in
    let agree : (rs : List Rule) (rule : Rule) → pass.agrees (tables_by rs a.self.now) (proof_out rule a.proof) c.parent-parent.result
    ≡ c.agrees-agree.result = λ rs rule.
    agrees_at rs _ _ (layout_out a.self.now.layout) (proof_out rule a.proof) _ (omega (arith, c.requires.started)) ∙ sym c.agrees-agree.ensures in
    let end = a.proof.parent_first + a.proof.parent_count in
    let left : end - (c.loop-cell.cell + 1) ≡ end - c.loop-cell.cell - 1 = omega arith in (
      c.loop-cell.invariant.0,
      λ rs rule. rw (left, c.max-deepest.ensures, ← get_or-take a.proof.proof_id.0 a.depths.now c.parent-parent.result 0 below)
          (parents_on _ _ _ _ _ _ _ _ _ _ (omega arith) (is rs) c.place-number.ensures c.in_ok-check.ensures _ (agree rs rule) c.in_ok-check-2.ensures
          ∙ c.loop-cell.invariant.1 rs rule),
    )

pub returns : goal.returns
returns c rs rule =
    sym (parents_none _ _ _ _ _ c.loop-cell.cell c.loop-cell.least c.loop-cell.deepest (omega arith)) ∙ c.loop-cell.invariant.1 rs rule
