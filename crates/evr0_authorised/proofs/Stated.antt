-- What is stated of *authorised* of an accepted section: by the theorems about checked tables, since the tables that were read are checked.
-- A proposition that is not in its table gives 62 and no answer.
use Prim.Native.Nat.{ℕ, ◌≤◌, ◌<◌}
use mathlib.Core.Path.{◌≡◌, sym, ap, ◌∙◌}
use mathlib.Core.Logic.{◌↔◌, ⊎_elim}
use mathlib.Core.Bool.{true}
use mathlib.Core.List.{List}
use native.Mathlib.Omega.{arith}
use Rattle.local_format.specs.Out.{ok, refuse}
use Rattle.local_format.proofs.NumberLaws.{not_there_lem, is_there}
use Rattle.local_format.proofs.OutLaws.{never, ok_same}
use Rattle.derivation.specs.Rule.{four_rules}
use Rattle.derivation.specs.Section as derivation
use Rattle.derivation.specs.Section.{Checked, proof_at, proof_total}
use Rattle.derivation.specs.Friendly.{authorised}
use Rattle.derivation.proofs.Tests.{order}
use Rattle.derivation.proofs.Rules.{four_shaped}
use Rattle.derivation.proofs.Friendly as of
use Rattle.evr0_section.specs.Head.{Room}
use Rattle.evr0_section.specs.Section.{Section, section_of, decode_section}
use Rattle.evr0_section.proofs.SectionSteps.{Parts, section_parts}
use Rattle.evr0_section.proofs.Demand.{checked}
use Rattle.evr0_read.proofs.TableLaws.{facts}
use Rattle.evr0_authorised.specs.Authorised.{authorised_answer, Operation, AuthorisedStated}

module _ (room : Room) (bytes : List ℕ) (cursor : ℕ) (d : Section) (decodes : decode_section room bytes cursor ≡ ok d) (n : ℕ) where
  abbrev s : derivation.Section
  s = section_of d.tables

  parts : Parts four_rules room bytes cursor d
  unfolding decode_section
  parts = section_parts four_rules room bytes cursor d decodes

  checks : Checked s
  checks = checked four_rules room bytes cursor four_shaped d.tables parts.tables

  abbrev count : ℕ
  count = d.tables.head.counts.propositions

  proposed : n < count → authorised_answer n d ≡ ok (authorised s n)
  unfolding decode_section
  proposed h = rw (is_there n d.tables.propositions.entries (omega (arith, (facts _ room bytes cursor d decodes).propositions))).1

  unproposed : count ≤ n → authorised_answer n d ≡ refuse 62 0
  unfolding decode_section
  unproposed h = rw (not_there_lem n d.tables.propositions.entries (omega (arith, (facts _ room bytes cursor d decodes).propositions)))

  -- a proposition that is authorised is one of the table
  told : authorised_answer n d ≡ ok true → authorised s n ≡ true
  told e = ⊎_elim (λ g. absurd (never (sym (unproposed g) ∙ e))) (λ l. ok_same (sym (proposed l) ∙ e)) (order count n)

  there : (i : ℕ) → Operation d n i → n < count
  unfolding section_of
  there i o = rw o.proposition at (checks.proof_proposition i o.there)

  -- a condition on one proof of the proposition with operation 1
  module _ {P : ℕ → Type 0} (exactly : (authorised s n ≡ true)
      ↔ ((i : ℕ) × (i < proof_total s) × ((proof_at s i).proposition ≡ n) × ((proof_at s i).operation ≡ 1) × P i)) where
    stated : (authorised_answer n d ≡ ok true) ↔ ((i : ℕ) × Operation d n i × P i)
    stated = (
      (λ e. let r = exactly.0 (told e) in (r.0, record { there = r.1; proposition = r.2; operation = r.3 }, r.4)),
      (λ h. proposed (there h.0 h.1) ∙ ap ok (exactly.1 (h.0, h.1.there, h.1.proposition, h.1.operation, h.2))),
    )

  pub authorised_stated : AuthorisedStated d n
  authorised_stated =
      record {
        not_there = (
          (λ e. ⊎_elim (λ g. g) (λ l. absurd (never (sym e ∙ proposed l))) (order count n)),
          unproposed,
        );
        authorised_exactly = stated (of.authorised_exactly_lem s n);
        friendly = stated (of.friendly s n _ checks d.depths parts.depths);
        spoken_against = λ against e. of.spoken_against_lem s n _ checks d.depths parts.depths
            (λ i l p o. against i (record { there = l; proposition = p; operation = o })) (told e);
        fewer = λ e. let r = of.fewer s n (told e) in (r.0, record { there = r.1; proposition = r.2; operation = r.3 });
      }
