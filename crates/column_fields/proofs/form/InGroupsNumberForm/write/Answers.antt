-- The form writes as its writer does.
use Rattle.evr0_columns.specs.Layout.{in_groups}
use Rattle.column_fields.proofs.form.InGroupsNumberForm.write.Goals as goal

pub returns : goal.returns
unfolding in_groups
returns c =
    c.put_number.ensures
