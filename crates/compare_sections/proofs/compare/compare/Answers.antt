-- Meets its contract: the refusal of the rules, of the first section, of the second, of the pair, or what the pair gives, by `CompareLaws`.
use borrow.Author.Rules.{rules}
use mathlib.Core.Path.{◌≡◌}
use Rattle.local_format.specs.Out.{ok, refused}
use Rattle.local_format.specs.Maps.{answer_out}
use Rattle.section_pair.specs.Maps.{totals_out}
use Rattle.evr0_compare.specs.Compare.{rules_refused, first_refused, second_refused}
use Rattle.compare_sections.specs.Maps.{comparison_out, refusal_in, found_out}
use Rattle.compare_sections.proofs.CompareLaws.{decoded, second_refused_lem, pair_told, pair_goes_on, by_rules, by_first, by_second}
use Rattle.compare_sections.proofs.compare.compare.Goals as goal

pub returns-in_err-map_err-clause-answers : goal.returns-in_err-map_err-clause-answers
returns-in_err-map_err-clause-answers c =
    let e : answer_out (λ n. n) c.count.result ≡ refused (refusal_in c.in_err-map_err.field-0.0) = search rules in
    let whose : comparison_out c.from_residual.result ≡ rules_refused (refusal_in c.in_err-map_err.field-0.0) = search rules in
    rw whose (by_rules _ _ _ _ _ _ _ c.count.ensures e)

pub returns-in_err-found-clause-answers : goal.returns-in_err-found-clause-answers
returns-in_err-found-clause-answers c =
    let loaded : answer_out (λ n. n) c.count.result ≡ ok c.in_ok-map_err.field-0 = search rules in
    let e : answer_out found_out c.decode.result ≡ refused (refusal_in c.in_err-found.field-0.0) = search rules in
    let whose : comparison_out c.from_residual-in_err-found.result ≡ first_refused (refusal_in c.in_err-found.field-0.0) = search rules in
    rw whose (by_first _ _ _ _ _ _ c.count.ensures loaded c.decode.ensures.decodes _ e)

pub returns-in_err-other-clause-answers : goal.returns-in_err-other-clause-answers
returns-in_err-other-clause-answers c =
    let loaded : answer_out (λ n. n) c.count.result ≡ ok c.in_ok-map_err.field-0 = search rules in
    let found : answer_out found_out c.decode.result ≡ ok (found_out c.in_ok-found.found) = search rules in
    let e : answer_out found_out c.decode-2.result ≡ refused (refusal_in c.in_err-other.field-0.0) = search rules in
    let whose : comparison_out c.from_residual-in_err-other.result ≡ second_refused (refusal_in c.in_err-other.field-0.0) = search rules in
    rw whose
    (by_second _ _ _ _ _ _ c.count.ensures loaded c.decode.ensures.decodes found
    (second_refused_lem c.decode-2.ensures.decodes (decoded c.decode.ensures.decodes found) _ _ e))

pub section-one-requires : goal.section-one-requires
section-one-requires c =
    let found : answer_out found_out c.decode.result ≡ ok (found_out c.in_ok-found.found) = search rules in
    ∣ decoded c.decode.ensures.decodes found ∣₁

pub section-two-requires : goal.section-two-requires
section-two-requires c =
    let found : answer_out found_out c.decode-2.result ≡ ok (found_out c.in_ok-other.other) = search rules in
    ∣ decoded c.decode-2.ensures.decodes found ∣₁

pub returns-clause-answers : goal.returns-clause-answers
returns-clause-answers c =
    let loaded : answer_out (λ n. n) c.count.result ≡ ok c.in_ok-map_err.field-0 = search rules in
    let found : answer_out found_out c.decode.result ≡ ok (found_out c.in_ok-found.found) = search rules in
    let other : answer_out found_out c.decode-2.result ≡ ok (found_out c.in_ok-other.other) = search rules in
    let whose : comparison_out c.map_err-4.result ≡ pair_told (answer_out totals_out c.hold.result) = search rules in
    let a = c.section-one.ensures in
    let b = c.section-two.ensures in
    let holds = rw (
      a.place.0,
      a.place.1,
      a.place.2,
      a.tables.0,
      a.tables.1,
      a.tables.2,
      b.place.0,
      b.place.1,
      b.place.2,
      b.tables.0,
      b.tables.1,
      b.tables.2,
    ) at c.hold.ensures in
    rw whose
    (by_second _ _ _ _ _ _ c.count.ensures loaded c.decode.ensures.decodes found
    (pair_goes_on c.decode-2.ensures.decodes (decoded c.decode.ensures.decodes found) _ _ other
    (holds (decoded c.decode.ensures.decodes found) (decoded c.decode-2.ensures.decodes other))))
