-- The 16 bytes hold each count at its place; where they are not all there, the first that is cut is named.
use native.Mathlib.Omega.{arith}
use Rattle.evr0_fields.proofs.PartLaws.{next_within, never_cut, field_is}
use Rattle.evr0_head.proofs.HeadLaws.{counts_cut, counts_there}
use Rattle.evr0_head.proofs.counts.read_counts.Goals as goal

pub returns-in_default : goal.returns-in_default
returns-in_default c =
    rw c.refuse.ensures (counts_cut _ _ c.tail-rest.ensures c.in_default.ensures.cases)

pub returns-in_default-field_at : goal.returns-in_default-field_at
returns-in_default-field_at c =
    absurd (never_cut 0 c.in-Some.ensures.cases c.in_default-field_at.ensures (omega arith))

-- Kept (8d): each, and six of read_rest, cites `next_within` with its own arm's field; one lemma would be given the same facts.
pub overflow_add-at-in_default-field_at-2 : goal.overflow_add-at-in_default-field_at-2
overflow_add-at-in_default-field_at-2 c =
    omega (arith, next_within c.args.payload.now c.args.at _ c.tail-rest.ensures c.in-Some.ensures.cases c.in-Some-field_at.ensures)

pub returns-in_default-field_at-2 : goal.returns-in_default-field_at-2
returns-in_default-field_at-2 c =
    let p = c.in-Some.ensures.cases in
    let a = field_is _ p c.in-Some-field_at.ensures in
    absurd (never_cut _ p c.in_default-field_at-2.ensures (omega (arith, a.0)))

pub overflow_add-at-in_default-field_at-3 : goal.overflow_add-at-in_default-field_at-3
overflow_add-at-in_default-field_at-3 c =
    omega (arith, next_within c.args.payload.now c.args.at _ c.tail-rest.ensures c.in-Some.ensures.cases c.in-Some-field_at-2.ensures)

pub returns-in_default-field_at-3 : goal.returns-in_default-field_at-3
returns-in_default-field_at-3 c =
    let p = c.in-Some.ensures.cases in
    let a = field_is _ p c.in-Some-field_at.ensures in
    let b = field_is _ p c.in-Some-field_at-2.ensures in
    absurd (never_cut _ p c.in_default-field_at-3.ensures (omega (arith, a.0, b.0)))

pub overflow_add-at-in_default-field_at-4 : goal.overflow_add-at-in_default-field_at-4
overflow_add-at-in_default-field_at-4 c =
    omega (arith, next_within c.args.payload.now c.args.at _ c.tail-rest.ensures c.in-Some.ensures.cases c.in-Some-field_at-3.ensures)

pub returns-in_default-field_at-4 : goal.returns-in_default-field_at-4
returns-in_default-field_at-4 c =
    let p = c.in-Some.ensures.cases in
    let a = field_is _ p c.in-Some-field_at.ensures in
    let b = field_is _ p c.in-Some-field_at-2.ensures in
    let d = field_is _ p c.in-Some-field_at-3.ensures in
    absurd (never_cut _ p c.in_default-field_at-4.ensures (omega (arith, a.0, b.0, d.0)))

pub overflow_add-result : goal.overflow_add-result
overflow_add-result c =
    omega (arith, next_within c.args.payload.now c.args.at _ c.tail-rest.ensures c.in-Some.ensures.cases c.in-Some-field_at-4.ensures)

pub returns : goal.returns
returns c =
    counts_there _ _ c.tail-rest.ensures c.in-Some.ensures.cases c.in-Some-field_at.ensures c.in-Some-field_at-2.ensures c.in-Some-field_at-3.ensures
    c.in-Some-field_at-4.ensures
