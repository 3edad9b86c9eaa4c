-- In every section whose tables read, the rule of a proof is exactly the one whose name has the bytes of the proof's rule text: of any rules
-- among which a name finds exactly the one that has it, and so of the four.
use Prim.Native.Nat.{ℕ}
use mathlib.Core.Path.{◌≡◌, sym, ap, ◌∙◌}
use mathlib.Core.Logic.{◌↔◌}
use mathlib.Core.List.{List, Memᴰ}
use lib.ListN.{drop}
use Rattle.local_format.specs.Out.{ok}
use Rattle.local_format.specs.Text.{bytes_at}
use Rattle.local_format.proofs.OutLaws.{bind_ok, moved_ok, ok_same}
use Rattle.derivation.specs.Rule.{Rule, known, rule_named, four_rules}
use Rattle.derivation.proofs.Rules.{four_named}
use Rattle.evr0_section.specs.Rows.{Row, Entry}
use Rattle.evr0_section.specs.Head.{Counts, Room}
use Rattle.evr0_section.specs.Proof.{Settled, Unowned, proof_row}
use Rattle.evr0_section.specs.Section.{Frame, Tables, frame_at, tables_of, tables_at}
use Rattle.evr0_section.proofs.RowsLaws.{entry, trace, each_entry}
use Rattle.evr0_section.proofs.RowChecks.{proof_behind}
use Rattle.evr0_section.proofs.CheckedTables.{steps}

-- the bytes of a proof's rule text, in the payload
abbrev pub rule_text : List ℕ → Entry Settled → List ℕ
rule_text p e = bytes_at (drop e.start p) e.item.proof.rule.start e.item.proof.rule.len

same_rule : {r s : Rule} → known r ≡ known s → r ≡ s
same_rule e = cc

module _ (rules : List Rule) (found : (name : List ℕ) (r : Rule) → (rule_named rules name ≡ known r) ↔ (Memᴰ r rules × (name ≡ r.name))) where
  abbrev Exactly : List ℕ → Entry Settled → Type 0
  Exactly p e = (r : Rule) → Memᴰ r rules → (e.item.rule ≡ r) ↔ (rule_text p e ≡ r.name)

  named_exactly : (name : List ℕ) (rule : Rule) → rule_named rules name ≡ known rule
      → (r : Rule) → Memᴰ r rules → (rule ≡ r) ↔ (name ≡ r.name)
  named_exactly name rule e r m = (
    λ h. ((found name r).0 (e ∙ ap known h)).1,
    λ h. same_rule (sym e ∙ (found name r).1 (m, h)),
  )

  module _ (counts : Counts) (p : List ℕ) where
    one : (u : Unowned) (at : ℕ) (r : Row Settled Unowned) → proof_row rules counts u (drop at p) ≡ ok r → Exactly p (entry at r)
    one u at r e =
        let b = proof_behind rules counts u (drop at p) r e in
        named_exactly (rule_text p (entry at r)) r.item.rule (rw b.item b.named)

  pub settled_by : (room : Room) (bytes : List ℕ) (cursor : ℕ) (f : Frame) (t : Tables) → frame_at bytes cursor ≡ ok f
      → tables_at rules room bytes cursor ≡ ok t → (e : Entry Settled) → Memᴰ e t.proofs.entries
      → (r : Rule) → Memᴰ r rules → (e.item.rule ≡ r) ↔ (rule_text (bytes_at bytes f.start f.len) e ≡ r.name)
  unfolding tables_at
  settled_by room bytes cursor f t framed read e m =
      let a = bind_ok (frame_at bytes cursor) _ read in
      let p = bytes_at bytes f.start f.len in
      let same : a.0 ≡ f = ok_same (sym a.1 ∙ framed) in
      let b : tables_of rules room p ≡ ok t = rw (← same) (moved_ok a.0.start _ a.2) in
      each_entry (proof_row rules t.head.counts) p (Exactly p) (one t.head.counts p)
      (trace (proof_row rules t.head.counts) p _ _ _ t.proofs (steps rules room p t b).proofs) e m

pub settled_exactly : (room : Room) (bytes : List ℕ) (cursor : ℕ) (f : Frame) (t : Tables) → frame_at bytes cursor ≡ ok f
    → tables_at four_rules room bytes cursor ≡ ok t → (e : Entry Settled) → Memᴰ e t.proofs.entries
    → (r : Rule) → Memᴰ r four_rules → (e.item.rule ≡ r) ↔ (rule_text (bytes_at bytes f.start f.len) e ≡ r.name)
settled_exactly = settled_by four_rules four_named
