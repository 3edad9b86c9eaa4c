-- Each family is a byte, so the place after it is the next.
use Rattle.std.proofs.Common.{◌≡◌, ℕ, ◌+◌, ◌-◌, ◌≤◌, ◌<◌, ◌∙◌, length, get_or, take, drop, arith, ap, sym, rules, refl}
use lib.ListN.{length-take, length-drop}
use lib.Seq.{get_or-take, get_or-drop}
use Rattle.local_format.specs.Out.{ok, refused}
use Rattle.local_format.specs.Maps.{refusal_out}
use Rattle.semcode_records.specs.Records.{next_of, records, ends}
use Rattle.semcode_records.proofs.RecordsLaws.{none_left_lem, ends_refused, ends_on}
use Rattle.semcode_decode.specs.Block.{family_at}
use Rattle.semcode_decode.proofs.SignatureLaws.{family_is, families_whole}
use Rattle.semcode_decode.proofs.signature.families_end.Goals as goal

pub loop-place-init : goal.loop-place-init
loop-place-init c =
    let a = c.args in
    let all : a.count - (a.at - a.at) ≡ a.count = omega arith in
    rw all refl

pub returns-in_err-read_family : goal.returns-in_err-read_family
returns-in_err-read_family c =
    let a = c.args in
    let read = family_at a.bytes.now in
    let e : refused (refusal_out c.in_err-read_family.field-0.0) ≡ ends (records read a.count a.at) =
    ends_refused read _ (c.loop-place.place - a.at) _ (omega arith) (ap next_of c.in_err-read_family.ensures) ∙ sym c.loop-place.invariant in
    search rules

pub loop-place-preserved : goal.loop-place-preserved
loop-place-preserved c =
    let a = c.args in
    let s = a.bytes.now in
    let place : ℕ = c.loop-place.place in
    let w = family_is s place _ (sym c.in_ok-read_family.ensures) in
    let n : place - a.at + 1 ≡ place + 1 - a.at = omega arith in
    c.loop-place.invariant ∙ rw (n, w.1) at (ends_on (family_at s) a.count (place - a.at) place (omega arith) (sym c.in_ok-read_family.ensures))

pub returns : goal.returns
returns c =
    let a = c.args in
    let read = family_at a.bytes.now in
    let none : a.count - (c.loop-place.place - a.at) ≡ 0 = omega arith in
    let end : c.loop-place.place ≡ a.at + a.count = omega arith in
    let e : ends (records read a.count a.at) ≡ ok c.loop-place.place = rw (none, none_left_lem read c.loop-place.place) at c.loop-place.invariant in
    sym (rw end at e)

pub returns-then-all_families : goal.returns-then-all_families
returns-then-all_families c =
    let a = c.args in
    let s = a.bytes.now in
    let n : ℕ = a.at + a.count - a.at in
    let each : (i : ℕ) → i < a.count → (1 ≤ get_or s (a.at + i) 0) × (get_or s (a.at + i) 0 ≤ 15) =
    λ i h. let long : i < length (take n (drop a.at s)) = simp (length-take, length-drop) (omega arith) in
    rw (get_or-take n (drop a.at s) i 0 (omega arith), get_or-drop a.at s i 0) at (c.if-all_families.ensures refl i long) in
    sym (families_whole s a.count a.at (omega arith) each)
