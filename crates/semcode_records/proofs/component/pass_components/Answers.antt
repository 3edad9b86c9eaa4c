-- Meets its contract. The invariant is the contract, of the components that are left, with the size of the kind that is known.
use Prim.Native.Nat.{◌-◌}
use native.Mathlib.Nat.{sub-zero}
use native.Mathlib.Omega.{arith}
use mathlib.Core.Path.{◌≡◌, ◌∙◌}
use lib.ListN.{get_or}
use Rattle.semcode_records.specs.Component.{component_at}
use Rattle.semcode_records.proofs.RecordsLaws.{ends_on}
use Rattle.semcode_records.proofs.SizeLaws.{sized, sized_end}
use Rattle.semcode_records.proofs.component.pass_components.Invariants.{Known}
use Rattle.semcode_records.proofs.component.pass_components.Goals.{then-component_kind-known+else-size-eq0-2, else-component_kind-known}
use Rattle.semcode_records.proofs.component.pass_components.Goals as goal

pub loop-passed-init : goal.loop-passed-init
loop-passed-init c =
    let e = rw c.component_sizes-table.ensures at c.component_size-size.ensures.0 in
    (rw sub-zero, record { is = e; some = omega arith; small = c.component_size-size.ensures.1 })

pub overflow_add-cursor : goal.overflow_add-cursor
overflow_add-cursor c =
    let old = c.loop-passed.invariant.1.small in
    elim c.if-component_kind-known.branch [
      | then-component_kind-known+else-size-eq0-2 w ↦ let new =
          w.component_size-size-then-component_kind-known.ensures.1 in omega arith
      | else-component_kind-known w ↦ omega arith
    ]

pub loop-passed-preserved : goal.loop-passed-preserved
loop-passed-preserved c =
    let a = c.args in
    let old = c.loop-passed.invariant.1 in
    let is-here : c.if-component_kind-known.known ≡ get_or a.bytes.now c.loop-passed.cursor 0 =
    elim c.if-component_kind-known.branch [ then-component_kind-known+else-size-eq0-2 w ↦ w.known-is | else-component_kind-known w ↦ omega arith ] in
    let k : Known a.header_rev a.kind c.if-component_kind-known.known c.if-component_kind-known.size =
    elim c.if-component_kind-known.branch [
      | then-component_kind-known+else-size-eq0-2 w ↦ let sized = w.component_size-size-then-component_kind-known.ensures in
          rw (w.known-is, w.size-is) (record { is = rw c.component_sizes-table.ensures at sized.0; some = omega arith; small = sized.1 })
      | else-component_kind-known w ↦ rw (w.known-is, w.size-is) old
    ]
    in
    let next = sized_end (sized a.header_rev a.kind a.bytes.now c.loop-passed.cursor (omega arith) _ (rw is-here at k.is) k.some) in (
      c.loop-passed.invariant.0
          ∙ ends_on (component_at a.header_rev a.kind a.bytes.now) a.component_count c.loop-passed.passed c.loop-passed.cursor (omega arith) next.1,
      k,
    )

pub returns : goal.returns
returns c =
    let z : c.args.component_count - c.loop-passed.passed ≡ 0 = omega arith in
    rw z at c.loop-passed.invariant.0
