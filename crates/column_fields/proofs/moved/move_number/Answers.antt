-- By the number that is read.
use mathlib.Core.Path.{refl}
use native.Mathlib.Omega.{arith}
use Rattle.byte_output.proofs.WrittenLaws.{writes_none}
use Rattle.evr0_columns.specs.Layout.{field}
use Rattle.column_fields.proofs.FieldLaws.{whole_got}
use Rattle.column_fields.proofs.moved.move_number.Goals as goal

pub returns-in_default : goal.returns-in_default
returns-in_default g c =
    rw (whole_got g.A.NumberForm.numbers c.args.bytes.now c.args.at _ c.in_default.ensures)
    (record { puts = writes_none _ (omega arith) (omega arith); left = refl })

pub returns : goal.returns
unfolding field
returns g c =
    rw (whole_got g.A.NumberForm.numbers c.args.bytes.now c.args.at _ c.in-Ok.ensures) (record { puts = c.write.ensures; left = refl })
