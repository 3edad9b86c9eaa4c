-- The name is held against the rule's.
use Rattle.std.proofs.Common.{rules}
use Rattle.evr0_rules.proofs.placed.RuleAt.has_name.Goals as goal

pub returns : goal.returns
returns c = rw c.same.ensures (search rules)
