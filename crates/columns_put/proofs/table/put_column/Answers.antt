-- The invariant: the fields of the records before this one are written.
use Prim.Native.Nat.{◌<◌}
use mathlib.Core.Path.{ap, ◌∙◌}
use native.Mathlib.Omega.{arith}
use lib.ListN.{length}
use lib.Seq.{take_all}
use Rattle.byte_output.proofs.WrittenLaws.{writes_none, writes_append}
use Rattle.column_fields.specs.Maps.{item_of}
use Rattle.column_fields.specs.Moved.{field_moved}
use Rattle.column_fields.proofs.RowLaws.{moved_puts}
use Rattle.columns_put.specs.Maps.{place_of, starts_in}
use Rattle.columns_put.proofs.TableLaws.{each_none, each_more}
use Rattle.columns_put.proofs.table.put_column.Goals as goal

pub loop-i-init : goal.loop-i-init
loop-i-init c =
    rw each_none (writes_none _ (omega arith) (omega arith))

pub loop-i-preserved : goal.loop-i-preserved
loop-i-preserved c =
    let a = c.args in
    let starts = starts_in a.records in
    let i = c.loop-i.i in
    let here : i < length starts = omega (arith, c.loop-i-test.true, c.count-i-end.ensures) in
    let place = c.place-place.ensures ∙ ap (place_of a.bytes.now a.path) c.start.ensures in
    rw (each_more (λ s. field_moved (item_of a.item) a.bytes.now (place_of a.bytes.now a.path s)) starts i here, ← place)
    (writes_append c.loop-i.invariant (moved_puts _ c.move_field.ensures))

pub returns : goal.returns
returns c =
    rw (take_all c.loop-i.i (starts_in c.args.records) (omega (arith, c.loop-i-test.false, c.count-i-end.ensures))) at c.loop-i.invariant
