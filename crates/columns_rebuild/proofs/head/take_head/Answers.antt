-- The head is a table of one record.
use Prim.Native.Nat.{ℕ, ◌≤◌}
use mathlib.Core.Path.{◌≡◌, sym, subst}
use mathlib.Core.List.{List}
use native.Mathlib.Omega.{arith}
use lib.ListN.{length}
use Rattle.std.proofs.Common.{rules, Err}
use Rattle.evr0_columns.specs.Columns.{head_items}
use Rattle.columns_rebuild.specs.Maps.{HeadTakes}
use Rattle.columns_rebuild.proofs.ColumnLaws.{first_stand}
use Rattle.columns_rebuild.proofs.TookLaws.{table_stopped, table_took}
use Rattle.columns_rebuild.proofs.HeadLaws.{head_stopped, head_took}
use Rattle.columns_rebuild.proofs.head.take_head.Goals as goal

pub returns-in_err-next-clause-takes : goal.returns-in_err-next-clause-takes
returns-in_err-next-clause-takes c =
    let e : c.from_residual.result ≡ Err c.in_err-next.field-0.0 = search rules in
    subst (HeadTakes _ c.args.out.now c.args.out.now) (sym e)
    (head_stopped (table_stopped c.args.bytes.now head_items 1 0 (sym c.in_err-next.ensures.result_value)))

pub returns-clause-takes : goal.returns-clause-takes
returns-clause-takes c =
    let bytes : List ℕ = c.args.bytes.now in
    let starts : List ℕ = c.table_at.new.starts in
    let noted = c.in_ok-next.ensures.noted in
    let reach : length head_items ≤ length starts = omega (arith, c.in_ok-next.ensures.long) in
    let took = table_took bytes head_items 1 0 (sym c.in_ok-next.ensures.result_value) noted reach
    (λ rows h s. rw c.requires at (c.take_rows.ensures.took rows h s)) in
    head_took took (first_stand bytes head_items 1 0 _ starts took.read noted reach) c.read_announced-announced.ensures
