-- A section at a cursor by the four as the flat struct: one that is refused, with cleared tables, and one that was decoded, whose tables are what they are
-- once the loan is over.
use Prim.Native.Nat.{ℕ}
use mathlib.Core.Path.{◌≡◌, refl, ap, ◌∙◌}
use mathlib.Core.List.{List, []}
use lib.ListN.{length}
use Rattle.local_format.specs.Refusal.{Refusal}
use Rattle.local_format.specs.Out.{refused}
use Rattle.lent_table.specs.Lent.{lent}
use Rattle.derivation.specs.Rule.{four_rules}
use Rattle.rule_table.specs.ByTable.{four}
use Rattle.evr0.specs.Answer.{Lent, lent_of, Answer, answer_of}
use Rattle.evr0.specs.Steps.{section_by, Ends}
use Rattle.evr0.proofs.AnswerLaws.{refusal_ends}
use Rattle.evr0.proofs.DecodeLaws.{ends_by, leaves_by, leaves}
use Rattle.falgnust.specs.SectionMaps.{flat_section, DecodesUnmarked}
use Rattle.falgnust.specs.declared.section.Section.{Section}

module _ {s : List ℕ} {cursor : ℕ} {before : Lent} {r : Section} {ps qs ds : List ℕ} where
  pub decodes_unmarked : {after : Lent} {given : Answer} → r ≡ flat_section given → Ends (section_by four_rules before s cursor) cursor before after given
      → ps ≡ after.propositions → qs ≡ after.proofs → ds ≡ after.depths → DecodesUnmarked s cursor before (lent_of ps qs ds) r
  decodes_unmarked told x e f h =
      let l = leaves (leaves_by (ends_by four refl x) e f h) in
      record { answer = told ∙ ap flat_section l.answer; tables = l.tables; demand3 = l.demand3 }

  pub refuses_unmarked : {q : Refusal} → section_by four_rules before s cursor ≡ refused q → r ≡ flat_section (answer_of cursor (refused q))
      → ps ≡ lent (length before.propositions) [] → qs ≡ lent (length before.proofs) [] → ds ≡ lent (length before.depths) []
      → DecodesUnmarked s cursor before (lent_of ps qs ds) r
  refuses_unmarked x told e f h =
      decodes_unmarked told (refusal_ends x {after = lent_of ps qs ds} (record { propositions = e; proofs = f; depths = h }) refl) refl refl refl
