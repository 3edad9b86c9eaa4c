-- Meets its contract: the four load, and a table by its own call.
use Rattle.derivation.specs.Rule.{four_rules}
use Rattle.evr0_rules.proofs.settle.Rules.count.Goals as goal

pub returns-in-Four : goal.returns-in-Four
unfolding four_rules
returns-in-Four c =
    rw c.in-Four.is
