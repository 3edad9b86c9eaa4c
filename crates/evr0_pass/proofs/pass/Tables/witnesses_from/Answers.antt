-- Each turn is one step of the definition: what is answered from the witness reached on is the whole answer.
use Prim.Native.Nat.{◌+◌, ◌-◌}
use mathlib.Core.Path.{◌≡◌, sym, ◌∙◌}
use native.Mathlib.Omega.{arith}
use Rattle.std.proofs.Common.{rules}
use Rattle.derivation.proofs.Laws.{witnesses_none}
use Rattle.evr0_pass.specs.Maps.{layout_out}
use Rattle.evr0_pass.proofs.ViewLaws.{witness_reads}
use Rattle.evr0_pass.proofs.StepLaws.{witnesses_refused, witnesses_on}
use Rattle.evr0_pass.proofs.pass.Tables.witnesses_from.Goals as goal

pub returns-in_err-suits : goal.returns-in_err-suits
returns-in_err-suits c rs rule =
    let t = c.args.self.now in
    let w = witness_reads rs t.payload.now t.starts.now (layout_out t.layout) c.loop-witness.witness _ (omega arith) c.witness_start-at.ensures.0 in
    rw (← (witnesses_refused _ _ _ _ _ _ _ (omega arith) (w.0 ∙ sym c.le_at.ensures) w.1 (c.in_err-suits.ensures rule)
    ∙ c.loop-witness.invariant.1 rs rule)) (search rules)

pub loop-witness-preserved : goal.loop-witness-preserved
loop-witness-preserved c =
    let t = c.args.self.now in
    let end = c.place-first.result + c.args.proof.witness_count in
    let left : end - (c.loop-witness.witness + 1) ≡ end - c.loop-witness.witness - 1 = omega arith in (
      c.loop-witness.invariant.0,
      λ rs rule.
          let w = witness_reads rs t.payload.now t.starts.now (layout_out t.layout) c.loop-witness.witness _ (omega arith) c.witness_start-at.ensures.0 in
          rw left
          (witnesses_on _ _ _ _ _ _ _ (omega arith) (w.0 ∙ sym c.le_at.ensures) w.1 (c.in_ok-suits.ensures rule)
          ∙ c.loop-witness.invariant.1 rs rule),
    )

pub returns : goal.returns
returns c rs rule =
    sym (witnesses_none _ _ _ _ c.loop-witness.witness (omega arith)) ∙ c.loop-witness.invariant.1 rs rule
