-- What is read hangs on the bounds, by `RuleLaws`.
use Rattle.std.proofs.Common.{rules}
use Rattle.evr0_rules.proofs.RuleLaws.{numbers_there, reads}
use Rattle.evr0_rules.proofs.load.rule_at.Goals as goal

pub invariant_of-rule : goal.invariant_of-rule
invariant_of-rule c =
    record { there = numbers_there _ _ c.in_ok-len.ensures c.in-Some.ensures }

pub returns-in_err-check : goal.returns-in_err-check
returns-in_err-check c =
    rw (← reads _ _ c.in_ok-len.ensures c.in-Some.ensures c.is_bounded.ensures c.numbers.ensures) (search rules)

pub returns : goal.returns
returns c =
    rw (← reads _ _ c.in_ok-len.ensures c.in-Some.ensures c.is_bounded.ensures c.numbers.ensures) (search rules)
