-- Each component moves the cursor to its end.
use Rattle.std.proofs.Common.{◌≡◌, ◌-◌, ◌∙◌, arith, ap, sym, rules}
use native.Mathlib.Nat.{sub-zero}
use Rattle.local_format.specs.Out.{refused}
use Rattle.local_format.specs.Maps.{refusal_out}
use Rattle.semcode_records.specs.Records.{next_of, records, ends}
use Rattle.semcode_records.specs.Component.{component_at}
use Rattle.semcode_records.proofs.RecordsLaws.{none_left_lem, ends_refused, ends_on}
use Rattle.semcode_records.proofs.component.skip_components.Goals as goal

pub loop-init : goal.loop-init
loop-init c =
    rw sub-zero

pub returns-in_err-cursor : goal.returns-in_err-cursor
returns-in_err-cursor c =
    let a = c.args in
    let read = component_at a.header_rev a.kind a.bytes.now in
    let e : refused (refusal_out c.in_err-cursor.field-0.0) ≡ ends (records read a.component_count a.at) =
    ends_refused read _ _ _ (omega arith) (ap next_of c.in_err-cursor.ensures) ∙ sym c.loop.invariant in
    search rules

pub loop-preserved : goal.loop-preserved
loop-preserved c =
    let a = c.args in
    c.loop.invariant ∙ ends_on (component_at a.header_rev a.kind a.bytes.now) _ _ _ (omega arith) (sym c.in_ok-cursor.ensures)

pub returns : goal.returns
returns c =
    let none : c.args.component_count - c.loop.counter ≡ 0 = omega arith in
    rw (c.loop.invariant, none, none_left_lem _ _)
