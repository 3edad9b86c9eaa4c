-- What the decoder refused; 62 where the table has no such entry, with the tables cleared; and the place of one that is there.
use Rattle.std.proofs.Common.{rules}
use Prim.Native.Nat.{ℕ}
use mathlib.Core.Path.{◌≡◌, refl, sym, ap, ◌∙◌}
use mathlib.Core.List.{[]}
use native.Mathlib.Omega.{arith}
use Rattle.local_format.specs.Out.{refused}
use Rattle.local_format.specs.Maps.{answer_out, refusal_out}
use Rattle.lent_table.specs.Lent.{lent}
use Rattle.evr0.specs.Answer.{Answer}
use Rattle.evr0.specs.AnswerMaps.{accepted_out}
use Rattle.evr0_read.specs.Maps.{found_out}
use Rattle.evr0_read.proofs.FindLaws.{answer_refused, answer_accepted, gone, absent, present}
use Rattle.evr0_read.proofs.find.find.Goals as goal

pub returns-in_err-accepted : goal.returns-in_err-accepted
returns-in_err-accepted g c =
    let d = c.decode_evr0_by-decoded in
    let e : answer_out found_out c.from_residual.result ≡ refused (refusal_out c.in_err-accepted.field-0.0) = search rules in
    rw e (gone _ _ _ _ _ _
    (answer_refused _ _ (sym (ap (λ (a : Answer). a.outcome) d.ensures.answer) ∙ ap (answer_out accepted_out) c.in_err-accepted.was))
    d.ensures.tables)

pub returns-then-count-place : goal.returns-then-count-place
returns-then-count-place g c =
    let d = c.decode_evr0_by-decoded in
    let (section, is, end, schema, counts) =
    answer_accepted _ _ (sym (ap (λ (a : Answer). a.outcome) d.ensures.answer) ∙ ap (answer_out accepted_out) c.in_ok-accepted.was) in
    rw c.refuse.ensures (absent _ _ _ _ _ _ is c.count.ensures counts (omega (arith, c.place.ensures, c.if-count-place.true))
    (c.clear.ensures ∙ ap (λ (n : ℕ). lent n []) d.auto.propositions)
    (c.clear-then-count-place.ensures ∙ ap (λ (n : ℕ). lent n []) d.auto.proofs)
    (c.clear-then-count-place-2.ensures ∙ ap (λ (n : ℕ). lent n []) d.auto.depths))

pub returns : goal.returns
returns g c =
    let d = c.decode_evr0_by-decoded in
    let (section, is, end, schema, counts) =
    answer_accepted _ _ (sym (ap (λ (a : Answer). a.outcome) d.ensures.answer) ∙ ap (answer_out accepted_out) c.in_ok-accepted.was) in
    present _ _ _ _ _ _ is c.count.ensures schema (ap (λ (a : Answer). a.cursor) d.ensures.answer ∙ end) counts
    (omega (arith, c.place.ensures, c.if-count-place.false)) d.ensures.tables c.payload_of-len.ensures refl c.start-start.ensures
