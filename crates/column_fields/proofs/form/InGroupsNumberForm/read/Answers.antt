-- The form reads as its reader does.
use Rattle.evr0_columns.specs.Layout.{in_groups}
use Rattle.column_fields.proofs.form.InGroupsNumberForm.read.Goals as goal

pub returns : goal.returns
unfolding in_groups
returns c =
    c.number_at.ensures
