-- Sections by the rules of a call. The rules count by their names alone, so the four in any order give the old answers; they are shaped, so
-- what holds by any shaped rules holds by them; their names differ, so each proof's rule is the one that has the bytes of its text.
use Prim.Native.Nat.{ℕ, zero, suc, ◌+◌, ◌≤◌}
use mathlib.Core.Path.{◌≡◌, refl, sym, ap, ◌∙◌, subst}
use mathlib.Core.Logic.{◌↔◌}
use mathlib.Core.List.{List, Memᴰ}
use native.Mathlib.Omega.{arith}
use lib.ListN.{drop}
use Rattle.local_format.specs.Refusal.{Refusal}
use Rattle.local_format.specs.Out.{Out, ok, refused, moved}
use Rattle.local_format.specs.Text.{bytes_at}
use Rattle.local_format.proofs.OutLaws.{ok_same, on_ok, on_refused}
use Rattle.derivation.specs.Rule.{Rule, Shaped, by_witness, by_parents, rule_named, four_rules}
use Rattle.derivation.specs.Section.{Checked, proof_at}
use Rattle.derivation.proofs.Rules.{four_shaped}
use Rattle.derivation.proofs.Friendly as of
use Rattle.evr0_section.specs.Rows.{Row, Entry, rows}
use Rattle.evr0_section.specs.Head.{Counts, Room, span_width, checked_head}
use Rattle.evr0_section.specs.Proposition.{first, proposition_row}
use Rattle.evr0_section.specs.Proof.{Settled, Unowned, none_owned, proof_of, check_proof, proof_row}
use Rattle.evr0_section.specs.Section.{Frame, frame_at, Tables, section_of, tables_after, tables_of, tables_at, section_in, section_at, decode_section}
use Rattle.evr0_section.proofs.SectionSteps.{section_parts}
use Rattle.evr0_section.proofs.Schemas.{on_known}
use Rattle.evr0_section.proofs.Demand.{rules_read, checked, demand_by_rules}
use Rattle.evr0_section.proofs.Marks.{marks_read}
use Rattle.evr0_section.proofs.Settled.{rule_text, settled_by}
use Rattle.rule_table.specs.Load.{Distinct}
use Rattle.rule_table.specs.ByTable.{Given, four, table, rules_given, decode_by, TableWords, FriendlyByRules, HoldsBy}
use Rattle.rule_table.proofs.Load.{loaded}
use Rattle.rule_table.proofs.Names.{loaded_named, any_order, four_distinct}

-- ---- The rules count by their names alone

rows_same : {A S : Type 0} (row other : S → List ℕ → Out (Row A S)) → ((u : S) (s : List ℕ) → row u s ≡ other u s)
    → (n : ℕ) (u : S) (p : List ℕ) (at : ℕ) → rows row n u p at ≡ rows other n u p at
unfolding rows
rows_same row other same zero u p at = refl
rows_same row other same (suc n) u p at =
    rw (same u (drop at p)) (on_known (moved at (other u (drop at p))) _ _ λ r e. rw (rows_same row other same n r.state p (at + r.size)))

module _ (rules others : List Rule) (same : (name : List ℕ) → rule_named rules name ≡ rule_named others name) where
  proof_same : (counts : Counts) (u : Unowned) (s : List ℕ) → proof_row rules counts u s ≡ proof_row others counts u s
  unfolding proof_row check_proof
  proof_same counts u s = on_known (proof_of s) _ _ λ r e. simp same

  after_same : (width : ℕ) (counts : Counts) (p : List ℕ) (at : ℕ) → tables_after rules width counts p at ≡ tables_after others width counts p at
  unfolding tables_after
  after_same width counts p at =
      on_known (rows proposition_row counts.propositions first p at) _ _ λ propositions e.
      rw (rows_same (proof_row rules counts) (proof_row others counts) (proof_same counts) counts.proofs none_owned p propositions.next)

  module _ (room : Room) where
    tables_same : (p : List ℕ) → tables_of rules room p ≡ tables_of others room p
    unfolding tables_of
    tables_same p = on_known (checked_head room p) _ _ λ head e. rw (after_same (span_width head.schema) head.counts p head.next)

    pub by_names : (s : List ℕ) (cursor : ℕ) → section_at rules room s cursor ≡ section_at others room s cursor
    unfolding section_at section_in
    by_names s cursor = on_known (frame_at s cursor) _ _ λ f e. rw (tables_same (bytes_at s f.start f.len))

-- ---- The rules of a call

pub given_shaped : (given : Given) (rules : List Rule) → rules_given given ≡ ok rules → (r : Rule) → Memᴰ r rules → Shaped r
given_shaped four rules e = subst (λ (rules : List Rule). (r : Rule) → Memᴰ r rules → Shaped r) (ok_same e) four_shaped
given_shaped (table t) rules e = λ r m. ((loaded t rules e).allowed r m).shaped

pub given_distinct : (given : Given) (rules : List Rule) → rules_given given ≡ ok rules → Distinct rules
given_distinct four rules e = subst Distinct (ok_same e) four_distinct
given_distinct (table t) rules e = (loaded t rules e).distinct

gives : (r : Rule) → Shaped r → r.witnesses ≡ 1 → r.polarity ≤ 1
gives r (by_witness w p q) e = q
gives r (by_parents w l u q) e = absurd (omega arith)

module _ (given : Given) (room : Room) (bytes : List ℕ) (cursor : ℕ) where
  -- a table that is refused: its refusal, whatever the section
  pub table_refused : (r : Refusal) → rules_given given ≡ refused r → decode_by given room bytes cursor ≡ refused r
  unfolding decode_by
  table_refused r e = on_refused _ e

  module _ (rules : List Rule) (e : rules_given given ≡ ok rules) where
    pub decodes_by : decode_by given room bytes cursor ≡ section_at rules room bytes cursor
    unfolding decode_by
    decodes_by = on_ok _ e

    -- with the four, in any order, all answers are the old ones
    pub four_in_any_order : ((r : Rule) → Memᴰ r rules ↔ Memᴰ r four_rules) → decode_by given room bytes cursor ≡ decode_section room bytes cursor
    unfolding decode_section
    four_in_any_order same = decodes_by ∙ by_names rules four_rules (any_order (given_distinct given rules e) four_distinct same) room bytes cursor

    -- in every section whose tables read, a proof's rule is exactly the one that has the bytes of its rule text
    pub settled_given : (f : Frame) (t : Tables) → frame_at bytes cursor ≡ ok f → tables_at rules room bytes cursor ≡ ok t
        → (x : Entry Settled) → Memᴰ x t.proofs.entries → (r : Rule) → Memᴰ r rules
        → (x.item.rule ≡ r) ↔ (rule_text (bytes_at bytes f.start f.len) x ≡ r.name)
    settled_given = settled_by rules (loaded_named (given_distinct given rules e)) room bytes cursor

    shaped : (r : Rule) → Memᴰ r rules → Shaped r
    shaped = given_shaped given rules e

    words : (t : Tables) → tables_at rules room bytes cursor ≡ ok t → TableWords rules (section_of t)
    words t read =
        let known = rules_read rules room bytes cursor t read in
        let c : Checked (section_of t) = checked rules room bytes cursor shaped t read in
        record {
          witnessed = λ i k l. (
            (λ w. record {
              rule = (proof_at (section_of t) k).rule;
              of_table = known k l;
              settled = refl;
              witnesses = w.rule;
              gives = gives _ (shaped _ (known k l)) w.rule;
              one = w.one;
              there = w.there;
              proposition = w.proposition;
              polarity = w.polarity;
            }),
            (λ w. record {
              rule = ap (λ (r : Rule). r.witnesses) w.settled ∙ w.witnesses;
              one = w.one;
              there = w.there;
              proposition = w.proposition;
              polarity = w.polarity ∙ ap (λ (r : Rule). r.polarity) (sym w.settled);
            }),
          );
          join = λ i l. (
            (λ h. record { rule = (proof_at (section_of t) i).rule; of_table = known i l; settled = refl; parents = h; two = c.shape_parents i l ∙ h }),
            (λ j. ap (λ (r : Rule). r.parents) j.settled ∙ j.parents),
          );
        }

    friendly : FriendlyByRules rules room bytes cursor
    friendly d decodes n =
        let a = section_parts rules room bytes cursor d decodes in
        of.friendly (section_of d.tables) n _ (checked rules room bytes cursor shaped d.tables a.tables) d.depths a.depths

  pub holds_by : HoldsBy given room bytes cursor
  holds_by =
      record {
        demand3 = λ rules e. demand_by_rules rules room bytes cursor (shaped rules e);
        words = words;
        marks = λ rules e. marks_read rules (shaped rules e) room bytes cursor;
        friendly = friendly;
      }
