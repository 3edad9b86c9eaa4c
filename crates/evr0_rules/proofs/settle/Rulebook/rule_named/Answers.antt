-- The four are looked up by their own call.
use Rattle.std.proofs.Common.{rules}
use Rattle.evr0_rules.proofs.settle.Rulebook.rule_named.Goals as goal

pub returns-in-Four : goal.returns-in-Four
returns-in-Four c = rw c.in-Four.is (search rules)
