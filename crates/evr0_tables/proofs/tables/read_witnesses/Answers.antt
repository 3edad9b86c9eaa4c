-- Meets its contract, as read_propositions does, with the next witness's number as the state; no starts are kept.
use Prim.Native.Nat.{ℕ}
use mathlib.Core.Path.{ap, ◌∙◌, sym}
use native.Mathlib.Omega.{arith}
use Rattle.std.proofs.Common.{rules}
use Rattle.local_format.specs.Out.{refused}
use Rattle.evr0_section.specs.Head.{span_width}
use Rattle.evr0_section.specs.Witness.{witness_row}
use Rattle.evr0_section.proofs.Inside.{witness_row_in}
use Rattle.evr0_tables.specs.Maps.{next_in}
use Rattle.evr0_tables.proofs.RowLaws.{witness_kept, size_kept, read_there, refused_there}
use Rattle.evr0_tables.proofs.TableLaws.{advance, stop, read_next}
use Rattle.evr0_tables.proofs.tables.read_witnesses.Goals as goal

pub returns-in_err-place : goal.returns-in_err-place
returns-in_err-place c =
    let width : ℕ = span_width c.args.schema in
    let q = refused_there (λ n. n) _ _ c.next_witness.ensures c.in_err-place.ensures in
    let e = stop c.loop-number.invariant.1 (witness_row_in _ width _ _) (omega arith) (size_kept (witness_row width _ _ _) q.1) (omega arith) in
    rw (ap next_in e ∙ ap refused (sym q.2)) (search rules)

pub overflow_add-place : goal.overflow_add-place
overflow_add-place c =
    let width : ℕ = span_width c.args.schema in
    let k = witness_kept width _ _ _ (read_there (λ n. n) _ _ c.next_witness.ensures c.in_ok-place.ensures) in
    let on = advance c.loop-number.invariant.1 (witness_row_in _ width _ _) (omega arith) k in
    omega (arith, on.within)

pub loop-number-preserved : goal.loop-number-preserved
loop-number-preserved c =
    let width : ℕ = span_width c.args.schema in
    let k = witness_kept width _ _ _ (read_there (λ n. n) _ _ c.next_witness.ensures c.in_ok-place.ensures) in
    (_, advance c.loop-number.invariant.1 (witness_row_in _ width _ _) (omega arith) k)

pub returns : goal.returns
returns c =
    read_next c.loop-number.invariant.1 (omega arith)
