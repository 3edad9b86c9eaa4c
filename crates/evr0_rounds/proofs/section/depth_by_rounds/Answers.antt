-- What is left by the four, or by a table, and what the tables are once the loan is over: `LeavesLaws`.
use mathlib.Core.Path.{refl}
use Rattle.std.proofs.Common.{rules}
use Rattle.rule_table.specs.ByTable.{four}
use Rattle.evr0_rounds.proofs.LeavesLaws.{leaves_by, leaves_in}
use Rattle.evr0_rounds.proofs.section.depth_by_rounds.Goals as goal

pub returns-in-Four : goal.returns-in-Four
returns-in-Four c =
    rw c.in-Four.is (leaves_in (leaves_by {which = four} refl c.mark_section.ensures.ends) (search rules) (search rules) (search rules))

pub returns-in-Table : goal.returns-in-Table
returns-in-Table c =
    leaves_in c.mark_loaded.ensures.leaves (search rules) (search rules) (search rules)
