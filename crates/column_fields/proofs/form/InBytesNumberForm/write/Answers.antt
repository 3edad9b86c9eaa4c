-- The form writes as its writer does.
use Rattle.evr0_columns.specs.Layout.{copied, in_bytes}
use Rattle.column_fields.proofs.form.InBytesNumberForm.write.Goals as goal

pub returns : goal.returns
unfolding in_bytes copied
returns c =
    c.put_plain.ensures
