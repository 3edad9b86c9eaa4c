-- Both tables end the payload, so that each product and each difference fits; then one table after the other.
use Prim.Native.Nat.{ℕ, ◌+◌, ◌-◌, ◌*◌}
use mathlib.Core.Path.{subst}
use lib.ListN.{length}
use Rattle.byte_output.specs.Maps.{Writes}
use Rattle.byte_output.proofs.WrittenLaws.{writes_append}
use Rattle.groups.specs.Maps.{width_of}
use Rattle.evr0_columns.specs.Columns.{witness_items}
use Rattle.columns_put.specs.Places.{evenly, table_moved}
use Rattle.columns_put.proofs.section.put_even.Goals as goal

pub returns : goal.returns
returns c =
    let a = c.args in
    let w = subst (λ (n : ℕ). Writes a.out.now (table_moved (witness_items (width_of a.span)) a.payload.now
    (evenly a.witnesses (76 + 2 * n) (length a.payload.now - 4 * a.parents - (76 + 2 * n) * a.witnesses))) c.put_table.new.out)
    c.size.ensures c.put_table.ensures in
    writes_append w c.put_table-2.ensures
