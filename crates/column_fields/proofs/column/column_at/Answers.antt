-- The invariant: the column is the column of the fields left, from here on.
use Rattle.std.proofs.Common.{rules}
use Rattle.column_fields.proofs.PastLaws.{walking_first, walking_end, walking_refused, walking_more}
use Rattle.column_fields.proofs.column.column_at.Goals as goal

pub loop-field-init : goal.loop-field-init
loop-field-init c =
    walking_first _ _ _ _

pub returns-in_err-next : goal.returns-in_err-next
returns-in_err-next c =
    rw (← walking_refused c.loop-field.invariant c.loop-field-test.true c.in_err-next.ensures) (search rules)

pub loop-field-preserved : goal.loop-field-preserved
loop-field-preserved c =
    walking_more c.loop-field.invariant c.loop-field-test.true c.in_ok-next.ensures

pub returns : goal.returns
returns c =
    walking_end c.loop-field.invariant c.loop-field-test.false
