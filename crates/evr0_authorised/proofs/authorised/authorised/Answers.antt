-- The decoder's refusal is handed on, a proposition that is not there gives 62 and zeros, and the proofs of one that is there are asked, by
-- `AuthorisedLaws`.
use Prim.Native.Nat.{ℕ}
use Rattle.std.proofs.Common.{rules}
use mathlib.Core.Path.{◌≡◌, ap, ◌∙◌}
use mathlib.Core.Bool.{Bool}
use mathlib.Core.List.{[]}
use native.Mathlib.Omega.{arith}
use Rattle.lent_table.specs.Lent.{lent}
use Rattle.local_format.specs.Out.{refused}
use Rattle.local_format.specs.Maps.{answer_out, refusal_out}
use Rattle.evr0.specs.AnswerMaps.{accepted_out}
use Rattle.evr0_authorised.proofs.AuthorisedLaws.{told, not_decoded, due_of, front, answered, no_such}
use Rattle.evr0_authorised.proofs.authorised.authorised.Goals as goal

pub returns-in_err-accepted : goal.returns-in_err-accepted
returns-in_err-accepted c =
    let e : answer_out (λ (holds : Bool). holds) c.from_residual.result ≡ refused (refusal_out c.in_err-accepted.field-0.0) = search rules in
    rw e (not_decoded c.decode_evr0_section_by-decoded.ensures c.args.proposition.0 (ap (answer_out accepted_out) c.in_err-accepted.was))

pub returns-then-counts-place : goal.returns-then-counts-place
returns-then-counts-place c =
    let d = c.decode_evr0_section_by-decoded in
    rw c.refuse.ensures
    (no_such d.ensures c.args.proposition.0 (ap (answer_out accepted_out) c.in_ok-accepted.was)
    (omega (arith, c.if-counts-place.true, c.place.ensures))
    (c.clear.ensures ∙ ap (λ (n : ℕ). lent n []) d.auto.propositions)
    (c.clear-then-counts-place.ensures ∙ ap (λ (n : ℕ). lent n []) d.auto.proofs)
    (c.clear-then-counts-place-2.ensures ∙ ap (λ (n : ℕ). lent n []) d.auto.depths)
    (c.clear-then-counts-place-3.ensures ∙ ap (λ (n : ℕ). lent n []) d.auto.marks))

pub tables_of-tables-requires : goal.tables_of-tables-requires
tables_of-tables-requires c =
    let d = c.decode_evr0_section_by-decoded in
    (d.new.marks, due_of d.ensures c.args.proposition.0 (ap (answer_out accepted_out) c.in_ok-accepted.was))

pub authorised_by-requires : goal.authorised_by-requires
authorised_by-requires c =
    let of = due_of c.decode_evr0_section_by-decoded.ensures c.args.proposition.0 (ap (answer_out accepted_out) c.in_ok-accepted.was) in
    omega (arith, of.due.fits, c.tables_of-tables.ensures.total)

pub returns : goal.returns
returns c =
    let leaves = c.decode_evr0_section_by-decoded.ensures in
    let n = c.args.proposition.0 in
    let e = ap (answer_out accepted_out) c.in_ok-accepted.was in
    let of = due_of leaves n e in
    answered leaves n e (omega (arith, c.if-counts-place.false, c.place.ensures))
    (told of _ _ _ (c.tables_of-tables.ensures.is _ of) _ n (c.authorised_by.ensures of.due.rules) (front leaves n e))
