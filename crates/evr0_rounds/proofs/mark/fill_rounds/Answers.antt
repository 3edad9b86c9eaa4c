-- Meets its contract: 25 and 26, then the rounds at the front of the lent table, by `FillLaws`.
use borrow.Author.Rules.{rules}
use mathlib.Core.Path.{◌≡◌, sym, ◌∙◌}
use lib.ListN.{length, take}
use lib.Seq.{length-take-le}
use Rattle.local_format.specs.Out.{ok, refused}
use Rattle.local_format.specs.Maps.{answer_out, refusal_out}
use Rattle.evr0_rounds.proofs.FillLaws.{kin_refuses, one_left, all_made, not_filled, filled}
use Rattle.evr0_rounds.proofs.mark.fill_rounds.Goals as goal

pub returns-in_err-check_kin : goal.returns-in_err-check_kin
returns-in_err-check_kin c rs =
    let e : answer_out (λ done. done) c.from_residual.result ≡ refused (refusal_out c.in_err-check_kin.field-0.0) = search rules in
    not_filled (kin_refuses _ _ (sym (c.in_err-check_kin.ensures rs))) e

pub returns-in_err-mark_rounds : goal.returns-in_err-mark_rounds
returns-in_err-mark_rounds c rs =
    let e : answer_out (λ done. done) c.from_residual-in_err-mark_rounds.result ≡ refused (refusal_out c.in_err-mark_rounds.field-0.0) = search rules in
    let q : answer_out (λ done. done) c.mark_rounds.result ≡ refused (refusal_out c.in_err-mark_rounds.field-0.0) = search rules in
    not_filled (one_left _ _ (sym (c.in_ok-check_kin.ensures rs)) (c.mark_rounds.ensures rs) q) e

pub returns : goal.returns
returns c rs =
    let cut_length : length (take (length c.args.tables.starts.now) c.args.rounds.now) ≡ length c.args.tables.starts.now =
    length-take-le (length c.args.tables.starts.now) c.args.rounds.now c.requires in
    let none : answer_out (λ done. done) c.mark_rounds.result ≡ ok tt = search rules in
    filled (length c.args.tables.starts.now)
    (all_made _ _ (sym (c.in_ok-check_kin.ensures rs)) (c.mark_rounds.ensures rs) none)
    (c.mark_rounds.auto.rounds ∙ cut_length) c.requires c.clear_from.ensures
