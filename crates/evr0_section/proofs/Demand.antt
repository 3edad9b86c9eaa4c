-- Demand 3 about bytes: the tables that were read are checked, so the theorems about checked tables hold of them.
use Prim.Native.Nat.{ℕ, ◌<◌}
use mathlib.Core.Path.{◌≡◌, sym, ◌∙◌, subst}
use mathlib.Core.List.{List, Memᴰ}
use Rattle.local_format.specs.Out.{ok}
use Rattle.local_format.proofs.OutLaws.{ok_same}
use Rattle.derivation.specs.Rule.{Rule, Shaped, four_rules}
use Rattle.derivation.specs.Section.{Checked, proof_at, proof_total}
use Rattle.derivation.specs.Demand.{Derivable}
use Rattle.derivation.proofs.Owners.{owned}
use Rattle.derivation.proofs.Demand.{walks_lead, walks_end, depths_are, accepted_exactly}
use Rattle.derivation.proofs.Down.{way_down_lem, never_spent_lem}
use Rattle.derivation.proofs.Rules.{four_shaped, one_witness, two_parents}
use Rattle.evr0_section.specs.Head.{Room}
use Rattle.evr0_section.specs.Section.{Tables, Section, section_of, tables_at}
use Rattle.evr0_section.specs.Demand.{DemandByRules, FourWords, Demand3}
use Rattle.evr0_section.proofs.CheckedTables.{rules_known, tables_checked}
use Rattle.evr0_section.proofs.Stages.{stage}
use Rattle.evr0_section.proofs.SectionSteps.{tables_of_lem, Parts, section_parts, section_of_lem}

module _ (rules : List Rule) (room : Room) (bytes : List ℕ) (cursor : ℕ) where
  pub rules_read : (t : Tables) → tables_at rules room bytes cursor ≡ ok t → (i : ℕ) → i < proof_total (section_of t)
      → Memᴰ (proof_at (section_of t) i).rule rules
  rules_read t e = let a = tables_of_lem rules room bytes cursor t e in rules_known rules room _ t a.2

  module _ (shaped : (r : Rule) → Memᴰ r rules → Shaped r) where
    pub checked : (t : Tables) → tables_at rules room bytes cursor ≡ ok t → Checked (section_of t)
    checked t e = let a = tables_of_lem rules room bytes cursor t e in tables_checked rules room _ t a.2 shaped

    pub demand_by_rules : DemandByRules rules room bytes cursor
    demand_by_rules =
        record {
          tables = λ d e. (section_parts rules room bytes cursor d e).tables;
          accepted = λ d e.
              let a : Parts rules room bytes cursor d = section_parts rules room bytes cursor d e in
              let c : Checked (section_of d.tables) = checked d.tables a.tables in
              record {
                walks = walks_lead _ _ c d.depths a.depths;
                no_parent_left = walks_end _ _ c d.depths a.depths;
                owned = owned _ c;
                depths = depths_are _ _ c d.depths a.depths;
                down = way_down_lem _ _ c d.depths a.depths;
                never_spent = never_spent_lem _ _ c d.depths a.depths;
              };
          stage = stage rules room bytes cursor;
          exactly = λ t e. (
            (λ h.
                let d : Section = h.0 in
                let a : Parts rules room bytes cursor d = section_parts rules room bytes cursor d h.1 in
                let same : d.tables ≡ t = ok_same (sym a.tables ∙ e) in
                subst (λ (t : Tables). Derivable (section_of t)) same
                ((accepted_exactly d.tables.witnesses.next (section_of d.tables) (checked d.tables a.tables)).0 (d.depths, a.depths))),
            (λ h. let r = (accepted_exactly t.witnesses.next (section_of t) (checked t e)).1 h in section_of_lem rules room bytes cursor t r.0 e r.1),
          );
        }

four_words : (room : Room) (bytes : List ℕ) (cursor : ℕ) (t : Tables) → tables_at four_rules room bytes cursor ≡ ok t → FourWords (section_of t)
four_words room bytes cursor t e =
    let known = rules_read four_rules room bytes cursor t e in
    record {
      witnessed = λ i k l. (
        (λ w. record {
          one = w.one;
          there = w.there;
          proposition = w.proposition;
          rule = (one_witness _ (known k l) _).0 (w.rule, w.polarity);
        }),
        (λ w. let r = (one_witness _ (known k l) _).1 w.rule in record {
          rule = r.0;
          one = w.one;
          there = w.there;
          proposition = w.proposition;
          polarity = r.1;
        }),
      );
      join = λ i l. two_parents _ (known i l);
    }

pub demand_3 : (room : Room) (bytes : List ℕ) (cursor : ℕ) → Demand3 room bytes cursor
demand_3 room bytes cursor = record { by_rules = demand_by_rules four_rules room bytes cursor four_shaped; words = four_words room bytes cursor }
