-- A table that loads is one whose rules are there (`LoadLaws.rules_there`).
use mathlib.Core.Path.{sym, ap, ◌∙◌}
use Rattle.rule_table.specs.Load.{rules_of}
use Rattle.evr0_rules.proofs.LoadLaws.{rules_there}
use Rattle.evr0_rules.proofs.settle.Rulebook.load.Goals as goal

pub invariant_of-result : goal.invariant_of-result
invariant_of-result c =
    let loaded = c.in_ok-rules-in-Table in
    record { told = ∣ rules_there (sym (loaded.ensures.rules ∙ ap rules_of (sym loaded.ensures.table))) loaded.rules.there ∣₁ }

pub returns-in_ok-rules-in-Table : goal.returns-in_ok-rules-in-Table
returns-in_ok-rules-in-Table c =
    rw c.in-Table.is c.in_ok-rules-in-Table.ensures.rules
