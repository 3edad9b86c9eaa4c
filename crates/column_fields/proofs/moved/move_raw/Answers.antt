-- By how many bytes are left.
use mathlib.Core.Path.{refl, ap}
use native.Mathlib.Omega.{arith}
use lib.ListN.{length}
use Rattle.byte_output.proofs.WrittenLaws.{writes_none}
use Rattle.evr0_columns.specs.Layout.{copied, field}
use Rattle.column_fields.proofs.FieldLaws.{raw_short, raw_long}
use Rattle.column_fields.proofs.moved.move_raw.Goals as goal

pub returns-then-rest-size : goal.returns-then-rest-size
returns-then-rest-size g c =
    let a = c.args in
    rw (raw_short g.A.NumberForm.numbers a.bytes.now a.at a.size (omega (arith, c.if-rest-size.true, ap length c.tail-rest.ensures)))
    (record { puts = writes_none _ (omega arith) (omega arith); left = refl })

pub returns : goal.returns
unfolding field copied
returns g c =
    let a = c.args in
    rw (raw_long g.A.NumberForm.numbers a.bytes.now a.at a.size (omega (arith, c.if-rest-size.false, ap length c.tail-rest.ensures)))
    (record { puts = rw (← c.tail-rest.ensures) c.put_bytes.ensures; left = refl })
