-- The 24 bytes hold each field at its place; where they are not all there, the first that is cut is named.
use Rattle.std.proofs.Common.{rules}
use native.Mathlib.Omega.{arith}
use lib.ListN.{length-drop}
use Rattle.local_format.specs.Maps.{span_out}
use Rattle.evr0_fields.proofs.PartLaws.{next_within, never_cut, field_is}
use Rattle.evr0_records.proofs.RestLaws.{first_cut, zeros_cut, rest_there}
use Rattle.evr0_records.proofs.proof.read_rest.Goals as goal
use Rattle.evr0_records.proofs.proof.read_rest.Goals.{then-left-gt20, else-left-gt20}

pub returns-in_default : goal.returns-in_default
returns-in_default c =
    let a = c.args in
    elim c.if-left-gt20.branch [
      | then-left-gt20 w ↦ rw (c.refuse.ensures, w.cut-is)
          (zeros_cut a.tail.now a.proof_id.0 a.proposition_index.0 (span_out a.rule_id) (omega arith)
          (rw (c.tail.ensures, length-drop) at c.in_default.ensures.cases))
      | else-left-gt20 w ↦ rw (c.refuse.ensures, w.cut-is, c.saturating_sub-left.ensures)
          (first_cut a.tail.now a.proof_id.0 a.proposition_index.0 (span_out a.rule_id) (omega arith))
    ]

pub returns-in_default-field_at : goal.returns-in_default-field_at
returns-in_default-field_at c =
    absurd (never_cut 0 c.in-Some.ensures.cases c.in_default-field_at.ensures (omega arith))

pub overflow_add-at-in_default-field_at-2 : goal.overflow_add-at-in_default-field_at-2
overflow_add-at-in_default-field_at-2 c =
    omega (arith, next_within c.args.tail.now c.args.rule_id.next _ c.tail.ensures c.in-Some.ensures.cases c.in-Some-field_at.ensures)

pub returns-in_default-field_at-2 : goal.returns-in_default-field_at-2
returns-in_default-field_at-2 c =
    let p = c.in-Some.ensures.cases in
    let a = field_is _ p c.in-Some-field_at.ensures in
    absurd (never_cut _ p c.in_default-field_at-2.ensures (omega (arith, a.0)))

pub overflow_add-at-in_default-field_at-3 : goal.overflow_add-at-in_default-field_at-3
overflow_add-at-in_default-field_at-3 c =
    omega (arith, next_within c.args.tail.now c.args.rule_id.next _ c.tail.ensures c.in-Some.ensures.cases c.in-Some-field_at-2.ensures)

pub returns-in_default-field_at-3 : goal.returns-in_default-field_at-3
returns-in_default-field_at-3 c =
    let p = c.in-Some.ensures.cases in
    let a = field_is _ p c.in-Some-field_at.ensures in
    let b = field_is _ p c.in-Some-field_at-2.ensures in
    absurd (never_cut _ p c.in_default-field_at-3.ensures (omega (arith, a.0, b.0)))

pub overflow_add-at-in_default-field_at-4 : goal.overflow_add-at-in_default-field_at-4
overflow_add-at-in_default-field_at-4 c =
    omega (arith, next_within c.args.tail.now c.args.rule_id.next _ c.tail.ensures c.in-Some.ensures.cases c.in-Some-field_at-3.ensures)

pub returns-in_default-field_at-4 : goal.returns-in_default-field_at-4
returns-in_default-field_at-4 c =
    let p = c.in-Some.ensures.cases in
    let a = field_is _ p c.in-Some-field_at.ensures in
    let b = field_is _ p c.in-Some-field_at-2.ensures in
    let d = field_is _ p c.in-Some-field_at-3.ensures in
    absurd (never_cut _ p c.in_default-field_at-4.ensures (omega (arith, a.0, b.0, d.0)))

pub overflow_add-at-in_default-field_at-5 : goal.overflow_add-at-in_default-field_at-5
overflow_add-at-in_default-field_at-5 c =
    omega (arith, next_within c.args.tail.now c.args.rule_id.next _ c.tail.ensures c.in-Some.ensures.cases c.in-Some-field_at-4.ensures)

pub returns-in_default-field_at-5 : goal.returns-in_default-field_at-5
returns-in_default-field_at-5 c =
    let p = c.in-Some.ensures.cases in
    let a = field_is _ p c.in-Some-field_at.ensures in
    let b = field_is _ p c.in-Some-field_at-2.ensures in
    let d = field_is _ p c.in-Some-field_at-3.ensures in
    let f = field_is _ p c.in-Some-field_at-4.ensures in
    absurd (never_cut _ p c.in_default-field_at-5.ensures (omega (arith, a.0, b.0, d.0, f.0)))

pub overflow_add-at-in_default-field_at-6 : goal.overflow_add-at-in_default-field_at-6
overflow_add-at-in_default-field_at-6 c =
    omega (arith, next_within c.args.tail.now c.args.rule_id.next _ c.tail.ensures c.in-Some.ensures.cases c.in-Some-field_at-5.ensures)

pub returns-in_default-field_at-6 : goal.returns-in_default-field_at-6
returns-in_default-field_at-6 c =
    let p = c.in-Some.ensures.cases in
    let a = field_is _ p c.in-Some-field_at.ensures in
    let b = field_is _ p c.in-Some-field_at-2.ensures in
    let d = field_is _ p c.in-Some-field_at-3.ensures in
    let f = field_is _ p c.in-Some-field_at-4.ensures in
    let g = field_is _ p c.in-Some-field_at-5.ensures in
    absurd (never_cut _ p c.in_default-field_at-6.ensures (omega (arith, a.0, b.0, d.0, f.0, g.0)))

pub overflow_add-end : goal.overflow_add-end
overflow_add-end c =
    omega (arith, next_within c.args.tail.now c.args.rule_id.next _ c.tail.ensures c.in-Some.ensures.cases c.in-Some-field_at-6.ensures)

pub returns-in_err-check : goal.returns-in_err-check
returns-in_err-check c =
    let a = c.args in
    rw (
      ← rest_there a.tail.now a.proof_id.0 a.proposition_index.0 (span_out a.rule_id) c.tail.ensures c.in-Some.ensures.cases
          (λ i. (c.type_inv.tail i).fits) c.in-Some-field_at.ensures c.in-Some-field_at-2.ensures c.in-Some-field_at-3.ensures
          c.in-Some-field_at-4.ensures c.in-Some-field_at-5.ensures c.in-Some-field_at-6.ensures,
      ← c.in_err-check.ensures,
    )
    (search rules)

pub returns : goal.returns
returns c =
    let a = c.args in
    rw (
      ← rest_there a.tail.now a.proof_id.0 a.proposition_index.0 (span_out a.rule_id) c.tail.ensures c.in-Some.ensures.cases
          (λ i. (c.type_inv.tail i).fits) c.in-Some-field_at.ensures c.in-Some-field_at-2.ensures c.in-Some-field_at-3.ensures
          c.in-Some-field_at-4.ensures c.in-Some-field_at-5.ensures c.in-Some-field_at-6.ensures,
      ← c.in_ok-check.ensures,
    )
