-- The invariant is where the loop stands, by `LoadLaws`: the rules that are read start at the first i places.
use native.Mathlib.Omega.{arith}
use Rattle.std.proofs.Common.{rules}
use lib.ListN.{length-set}
use Rattle.evr0_rules.proofs.LoadLaws.{no_count, bad_count, starting, stops, goes_on, stored, left_over, refused_loads, all_loads}
use Rattle.evr0_rules.proofs.load.rules_at.Goals as goal

pub returns-in_default-clause-rules : goal.returns-in_default-clause-rules
returns-in_default-clause-rules c =
    refused_loads _ (no_count _ c.in_default.ensures) (search rules)

pub returns-in_err-check-clause-rules : goal.returns-in_err-check-clause-rules
returns-in_err-check-clause-rules c =
    refused_loads _ (bad_count _ c.in-Some.ensures c.in_err-check.ensures) (search rules)

pub loop-i-init : goal.loop-i-init
loop-i-init c =
    (starting _ c.in-Some.ensures c.in_ok-check.ensures, search rules, search rules)

pub invariant_of-earlier : goal.invariant_of-earlier
invariant_of-earlier c =
    record { there = c.loop-i.invariant.0.there }

pub returns-in_err-next-clause-rules : goal.returns-in_err-next-clause-rules
returns-in_err-next-clause-rules c =
    refused_loads _ (stops _ c.loop-i.invariant.0 (omega arith) c.in_err-next.ensures) (search rules)

pub loop-i-preserved : goal.loop-i-preserved
loop-i-preserved c =
    let loop = c.loop-i in (
      stored _ loop.at loop.starts loop.i (omega arith) (goes_on _ loop.invariant.0 (omega arith) c.in_ok-next.ensures),
      simp length-set loop.invariant.1,
      loop.invariant.2,
    )

pub returns-in_err-check-2-clause-rules : goal.returns-in_err-check-2-clause-rules
returns-in_err-check-2-clause-rules c =
    refused_loads _ (left_over _ c.loop-i.invariant.0 (omega arith) c.in_err-check-2.ensures) (search rules)

pub returns-clause-rules : goal.returns-clause-rules
returns-clause-rules c =
    all_loads _ _ c.loop-i.invariant.0 (omega arith) c.in_ok-check-2.ensures
