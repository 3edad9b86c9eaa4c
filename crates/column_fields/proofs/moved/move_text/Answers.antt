-- The length, and then the bytes, where all of them are there.
use Prim.Native.Nat.{◌≤◌, ◌<◌}
use mathlib.Core.Path.{refl, ap}
use native.Mathlib.Omega.{arith}
use lib.ListN.{length, drop}
use lib.Seq.{length-take-le}
use Rattle.byte_output.proofs.WrittenLaws.{writes_none, writes_append}
use Rattle.evr0_columns.specs.Layout.{copied, field}
use Rattle.column_fields.proofs.FieldLaws.{text_none, text_short, text_long}
use Rattle.column_fields.proofs.moved.move_text.Goals as goal

pub returns-in_default : goal.returns-in_default
returns-in_default g c =
    rw (text_none g.A.NumberForm.numbers c.args.bytes.now c.args.at c.in_default.ensures)
    (record { puts = writes_none _ (omega arith) (omega arith); left = refl })

pub returns-then-rest-len : goal.returns-then-rest-len
returns-then-rest-len g c =
    let a = c.args in
    let few : length (drop c.in-Ok.size.next a.bytes.now) < c.in-Ok.size.value = omega (arith, c.if-rest-len.true, ap length c.tail-rest.ensures) in
    rw (text_short g.A.NumberForm.numbers a.bytes.now a.at _ c.in-Ok.size.next c.in-Ok.ensures few)
    (record { puts = writes_none _ (omega arith) (omega arith); left = refl })

pub returns : goal.returns
unfolding field copied
returns g c =
    let a = c.args in
    let rest = drop c.in-Ok.size.next a.bytes.now in
    let enough : c.in-Ok.size.value ≤ length rest = omega (arith, c.if-rest-len.false, ap length c.tail-rest.ensures) in
    rw (text_long g.A.NumberForm.numbers a.bytes.now a.at _ c.in-Ok.size.next c.in-Ok.ensures enough)
    (record {
      puts = rw (length-take-le c.in-Ok.size.value rest enough, ← c.tail-rest.ensures) (writes_append c.write.ensures c.put_bytes.ensures);
      left = refl;
    })
