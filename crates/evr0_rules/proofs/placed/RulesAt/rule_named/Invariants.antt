-- The invariant: what the name finds among the rules from here on is what it finds among all.
use mathlib.Core.Path.{◌≡◌}
use mathlib.Core.List.{map}
use lib.ListN.{drop}
use Rattle.derivation.specs.Rule.{rule_named}
use Rattle.rule_table.specs.Load.{rule_in}
use Rattle.evr0_rules.specs.Maps.{rules_out}
use Rattle.evr0_rules.proofs.placed.RulesAt.rule_named.Given as goal

abbrev pub invariant-loop-at : goal.invariant-loop-at
invariant-loop-at l =
    rule_named (map (rule_in l.self.table.now) (drop l.at-index l.self.starts.now)) l.name ≡ rule_named (rules_out l.self) l.name
