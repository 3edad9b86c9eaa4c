-- Meets its contract, a turn at a time.
use mathlib.Core.Path.{refl}
use native.Mathlib.Omega.{arith}
use Rattle.evr0_compare.proofs.Merge.{ends}
use Rattle.section_pair.proofs.ListLaws.{turn}
use Rattle.section_pair.proofs.list.list.Goals as goal

pub loop-i-preserved-in-Agreed : goal.loop-i-preserved-in-Agreed
loop-i-preserved-in-Agreed c =
    let kept = c.loop-i.invariant in (
      kept.0,
      turn _ _ _ _ _ _ _ kept.1 (omega (arith, kept.0, c.loop-i-test.true)) c.next_verdict-verdict.ensures c.put.auto.verdicts c.put.ensures
          (rw c.in-Agreed.is refl) (rw c.in-Agreed.is refl) (rw c.in-Agreed.is refl),
    )

pub loop-i-preserved-in-Contradicted : goal.loop-i-preserved-in-Contradicted
loop-i-preserved-in-Contradicted c =
    let kept = c.loop-i.invariant in (
      kept.0,
      turn _ _ _ _ _ _ _ kept.1 (omega (arith, kept.0, c.loop-i-test.true)) c.next_verdict-verdict.ensures c.put.auto.verdicts c.put.ensures
          (rw c.in-Contradicted.is refl) (rw c.in-Contradicted.is refl) (rw c.in-Contradicted.is (omega arith)),
    )

pub loop-i-preserved-in-FirstOnly : goal.loop-i-preserved-in-FirstOnly
loop-i-preserved-in-FirstOnly c =
    let kept = c.loop-i.invariant in (
      kept.0,
      turn _ _ _ _ _ _ _ kept.1 (omega (arith, kept.0, c.loop-i-test.true)) c.next_verdict-verdict.ensures c.put.auto.verdicts c.put.ensures
          (rw c.in-FirstOnly.is refl) (rw c.in-FirstOnly.is (omega arith)) (rw c.in-FirstOnly.is (omega arith)),
    )

pub loop-i-preserved : goal.loop-i-preserved
loop-i-preserved c =
    let kept = c.loop-i.invariant in (
      kept.0,
      turn _ _ _ _ _ _ _ kept.1 (omega (arith, kept.0, c.loop-i-test.true)) c.next_verdict-verdict.ensures c.put.auto.verdicts c.put.ensures
          (rw c.in-SecondOnly.is (omega arith)) (rw c.in-SecondOnly.is refl) (rw c.in-SecondOnly.is (omega arith)),
    )

pub returns : goal.returns
returns c xs ys v w =
    ends xs ys c.args.verdicts.now c.loop-i.i c.loop-i.j c.loop-i.entries c.loop-i.agreed c.loop-i.verdicts
    (c.loop-i.invariant.1.merging xs ys v w) (omega (arith, c.loop-i-test.false, c.loop-i.invariant.0, v.count, w.count))
