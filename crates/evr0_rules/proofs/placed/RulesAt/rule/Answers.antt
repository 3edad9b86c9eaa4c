-- The rule starts at the place with its index.
use mathlib.Core.Path.{refl}
use Rattle.evr0_rules.proofs.placed.RulesAt.rule.Goals as goal

pub returns : goal.returns
returns c = (refl, refl)
