-- Meets its contract: the tables stay where the comparison is held, and are cleared where it is not.
use borrow.Author.Rules.{rules}
use Prim.Native.Nat.{ℕ}
use mathlib.Core.Bool.{true, false}
use mathlib.Core.List.{[]}
use mathlib.Core.Path.{◌≡◌, ap, ◌∙◌}
use Rattle.lent_table.specs.Lent.{lent}
use Rattle.evr0_compare.specs.Compare.{is_held}
use Rattle.compare_sections.specs.Maps.{comparison_out}
use Rattle.compare_sections.proofs.CompareLaws.{held_tables, refused_tables, zeros_too}
use Rattle.compare_sections.proofs.compare.compare_or_clear.Goals as goal

pub returns-then-is_err-clause-compares : goal.returns-then-is_err-clause-compares
returns-then-is_err-clause-compares c =
    let k = c.compare-answer.ensures in
    let refused : is_held (comparison_out c.compare-answer.result) ≡ false = search rules in
    record {
      answer = k.answers.answer;
      tables = refused_tables _ k.answers.answer refused (λ q. record {
        first = zeros_too k.first.propositions_room k.first.proofs_room k.first.depths_room k.first.marks_room k.first.authorised_room q
            (c.clear.ensures.cleared q);
        second = zeros_too k.second.propositions_room k.second.proofs_room k.second.depths_room k.second.marks_room k.second.authorised_room q
            (c.clear-then-is_err.ensures.cleared q);
        verdicts = c.clear-then-is_err-2.ensures ∙ ap (λ (n : ℕ). lent n []) c.compare-answer.auto.verdicts;
      });
    }

pub returns-else-is_err-clause-compares : goal.returns-else-is_err-clause-compares
returns-else-is_err-clause-compares c =
    let k = c.compare-answer.ensures in
    let held : is_held (comparison_out c.compare-answer.result) ≡ true = search rules in
    record { answer = k.answers.answer; tables = held_tables _ k.answers.answer held k.answers.tables }
