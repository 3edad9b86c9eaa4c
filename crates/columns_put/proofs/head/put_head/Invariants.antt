-- The invariant: the fields before this one are written, and what is left stands at `at`.
use Rattle.evr0_columns.specs.Columns.{head_items}
use Rattle.columns_put.proofs.HeadLaws.{Heading}
use Rattle.columns_put.proofs.head.put_head.Given as goal

abbrev pub invariant-loop-column : goal.invariant-loop-column
invariant-loop-column l = Heading head_items l.section l.initial.out l.out l.at l.column
