-- The invariant: the columns before this one are passed, and their starts are noted.
use Prim.Native.Nat.{◌≤◌, ◌<◌}
use mathlib.Core.Path.{◌∙◌}
use native.Mathlib.Omega.{arith}
use lib.ListN.{length, length-set}
use Rattle.std.proofs.Common.{rules}
use Rattle.column_fields.specs.Maps.{items_of}
use Rattle.columns_rebuild.proofs.FirstLaws.{walked_first, walked_all, walked_more, walked_refused, starts_none, starts_more, starts_all}
use Rattle.columns_rebuild.proofs.TookLaws.{items_most}
use Rattle.columns_rebuild.proofs.first.table_at.Goals as goal

pub loop-column-init : goal.loop-column-init
loop-column-init c =
    (c.told-starts, walked_first _ _ _ _, starts_none _ _ _ _ _)

pub bounds-starts-column : goal.bounds-starts-column
bounds-starts-column c =
    omega (arith, c.loop-column-test.true, c.columns-column-end.ensures, items_most c.args.table)

pub loop-column-preserved : goal.loop-column-preserved
loop-column-preserved c =
    let here : c.loop-column.column < length (items_of c.args.table) = omega (arith, c.loop-column-test.true, c.columns-column-end.ensures) in
    let w = c.loop-column.invariant.1 in (
      length-set c.loop-column.starts c.loop-column.column c.loop-column.next ∙ c.loop-column.invariant.0,
      walked_more w here c.item.ensures c.in_ok-next.ensures,
      starts_more w c.loop-column.invariant.2,
    )

pub returns-in_err-next-clause-result_value : goal.returns-in_err-next-clause-result_value
returns-in_err-next-clause-result_value c =
    let here : c.loop-column.column < length (items_of c.args.table) = omega (arith, c.loop-column-test.true, c.columns-column-end.ensures) in
    rw (← walked_refused c.loop-column.invariant.1 here c.item.ensures c.in_err-next.ensures) (search rules)

pub returns : goal.returns
returns c =
    let passed : length (items_of c.args.table) ≤ c.loop-column.column = omega (arith, c.loop-column-test.false, c.columns-column-end.ensures) in
    record {
      long = c.loop-column.invariant.0;
      result_value = walked_all c.loop-column.invariant.1 passed;
      noted = starts_all _ passed c.loop-column.invariant.2;
    }
