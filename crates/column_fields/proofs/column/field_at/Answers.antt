-- By what the field is, and what its number is.
use mathlib.Core.Path.{◌∙◌}
use Rattle.std.proofs.Common.{rules}
use Rattle.column_fields.proofs.PastLaws.{whole_past, text_sized, text_refused}
use Rattle.column_fields.proofs.column.field_at.Goals as goal

pub returns-in_err-number-in-Whole : goal.returns-in_err-number-in-Whole
returns-in_err-number-in-Whole c =
    rw (c.in-Whole.is, ← whole_past c.args.bytes.now c.args.at _ c.in_err-number-in-Whole.ensures) (search rules)

pub returns-in_ok-number-in-Whole : goal.returns-in_ok-number-in-Whole
returns-in_ok-number-in-Whole c =
    rw c.in-Whole.is (whole_past c.args.bytes.now c.args.at _ c.in_ok-number-in-Whole.ensures)

pub returns-in_err-size-in-Text : goal.returns-in_err-size-in-Text
returns-in_err-size-in-Text c =
    rw (c.in-Text.is, ← text_refused c.args.bytes.now c.args.at c.in_err-size-in-Text.ensures) (search rules)

pub returns-in_ok-size-in-Text : goal.returns-in_ok-size-in-Text
returns-in_ok-size-in-Text c =
    rw c.in-Text.is (c.raw_at-in-Text.ensures ∙ text_sized c.args.bytes.now c.args.at _ _ c.in_ok-size-in-Text.ensures)
