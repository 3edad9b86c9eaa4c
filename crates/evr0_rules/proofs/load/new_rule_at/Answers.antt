-- The rule lies in the table, and its name is new where the look-up finds none.
use mathlib.Core.Path.{sym}
use Rattle.std.proofs.Common.{rules}
use Rattle.rule_table.proofs.Load.{outside_ok}
use Rattle.evr0_rules.proofs.RuleLaws.{rule_read}
use Rattle.evr0_rules.proofs.LoadLaws.{turn}
use Rattle.evr0_rules.proofs.load.new_rule_at.Goals as goal

pub invariant_of-name : goal.invariant_of-name
invariant_of-name c =
    record { there = (rule_read _ _ (outside_ok _ (sym c.in_ok-next.ensures))).inside }

pub returns-in_err-check : goal.returns-in_err-check
returns-in_err-check c =
    rw (← turn _ _ _ _ _ c.in_ok-next.ensures (rw c.name-name.ensures at c.rule_named.ensures) c.is_none.ensures, ← c.in_err-check.ensures) (search rules)

pub returns : goal.returns
returns c =
    rw (← turn _ _ _ _ _ c.in_ok-next.ensures (rw c.name-name.ensures at c.rule_named.ensures) c.is_none.ensures, ← c.in_ok-check.ensures)
