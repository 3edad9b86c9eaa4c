-- Tables that were read pass their own checks, 17 to 23: each row's checks, and the sums of the counts along the proofs.
use Prim.Native.Nat.{ℕ, suc, ◌+◌, ◌≤◌, ◌<◌}
use mathlib.Core.Path.{◌≡◌, refl, sym, ap, ◌∙◌, subst}
use mathlib.Core.Bool.{◌&&◌}
use mathlib.Core.List.{List, map, Memᴰ}
use native.Mathlib.Nat.{le_refl}
use native.Mathlib.Omega.{arith}
use lib.ListN.{length, length-map}
use lib.Dec.{eqb}
use borrow.Author.Tests.{eqb-true}
use Rattle.local_format.specs.Out.{ok}
use Rattle.local_format.proofs.OutLaws.{bind_ok, then_ok, checked_ok, ok_same}
use Rattle.derivation.specs.Rule.{Rule, Shaped}
use Rattle.derivation.specs.Section.{Section, Proof, Witness, no_proof, no_witness, Checked, proof_at, witness_at}
use Rattle.derivation.specs.Section.{proof_total, witness_total, parent_total, sum_to}
use Rattle.derivation.proofs.Tests.{both}
use Rattle.derivation.proofs.Owners.{sum_mono}
use Rattle.evr0_section.specs.Rows.{rows}
use Rattle.evr0_section.specs.Head.{Room, Head, Counts, span_width, head_of, check_counts, checked_head}
use Rattle.evr0_section.specs.Proposition.{first, proposition_row}
use Rattle.evr0_section.specs.Proof.{Unowned, none_owned, proof_row}
use Rattle.evr0_section.specs.Witness.{witness_row, parent_row}
use Rattle.evr0_section.specs.Section.{Rest, Four, Tables, rest_after, tables_after, proof_item, witness_item, parent_item, section_of, tables_of}
use Rattle.evr0_section.proofs.RowsLaws.{trace, trace_length}
use Rattle.evr0_section.proofs.StateLaws.{state_at, state_sum, sum_ones, Read, rows_read}
use Rattle.evr0_section.proofs.RowChecks.{after_proof, GoodProof, proof_known, GoodWitness, witness_known}

-- ---- The steps that read the tables of a payload

pub record RestSteps (width : ℕ) (counts : Counts) (p : List ℕ) (at : ℕ) (r : Rest) : Type 0 where
  pub witnesses : rows (witness_row width counts) counts.witnesses 0 p at ≡ ok r.witnesses
  pub parents : rows parent_row counts.parents tt p r.witnesses.next ≡ ok r.parents
  pub whole : r.parents.next ≡ length p

rest_steps : (width : ℕ) (counts : Counts) (p : List ℕ) (at : ℕ) (r : Rest) → rest_after width counts p at ≡ ok r → RestSteps width counts p at r
unfolding rest_after
rest_steps width counts p at r e =
    let a = bind_ok (rows (witness_row width counts) counts.witnesses 0 p at) _ e in
    let b = bind_ok (rows parent_row counts.parents tt p a.0.next) _ a.2 in
    let c = checked_ok (eqb b.0.next (length p)) 24 b.0.next _ b.2 in
    subst (RestSteps width counts p at) (ok_same c.1) (record { witnesses = a.1; parents = b.1; whole = eqb-true _ _ c.0 })

pub record FourSteps (rules : List Rule) (width : ℕ) (counts : Counts) (p : List ℕ) (at : ℕ) (f : Four) : Type 0 where
  pub propositions : rows proposition_row counts.propositions first p at ≡ ok f.propositions
  pub proofs : rows (proof_row rules counts) counts.proofs none_owned p f.propositions.next ≡ ok f.proofs
  pub witnesses_owned : f.proofs.state.witness ≡ counts.witnesses
  pub parents_owned : f.proofs.state.parent ≡ counts.parents
  pub rest : RestSteps width counts p f.proofs.next f.rest

pub four_steps : (rules : List Rule) (width : ℕ) (counts : Counts) (p : List ℕ) (at : ℕ) (f : Four) → tables_after rules width counts p at ≡ ok f
    → FourSteps rules width counts p at f
unfolding tables_after
four_steps rules width counts p at f e =
    let a = bind_ok (rows proposition_row counts.propositions first p at) _ e in
    let b = bind_ok (rows (proof_row rules counts) counts.proofs none_owned p a.0.next) _ a.2 in
    let c = checked_ok (eqb b.0.state.witness counts.witnesses && eqb b.0.state.parent counts.parents) 22 b.0.next _ b.2 in
    let owned = both (eqb b.0.state.witness counts.witnesses) (eqb b.0.state.parent counts.parents) c.0 in
    let d = bind_ok (rest_after width counts p b.0.next) _ c.1 in
    subst (FourSteps rules width counts p at) (ok_same d.2)
    (record {
      propositions = a.1;
      proofs = b.1;
      witnesses_owned = eqb-true _ _ owned.0;
      parents_owned = eqb-true _ _ owned.1;
      rest = rest_steps width counts p _ d.0 d.1;
    })

pub head_steps : (room : Room) (p : List ℕ) (h : Head) → checked_head room p ≡ ok h → (head_of p ≡ ok h) × (check_counts room p h ≡ ok tt)
unfolding checked_head
head_steps room p h e =
    let a = bind_ok (head_of p) _ e in
    let b = then_ok (check_counts room p a.0) _ a.2 in
    subst (λ (h : Head). (head_of p ≡ ok h) × (check_counts room p h ≡ ok tt)) (ok_same b.2) (a.1, b.1)

pub record Steps (rules : List Rule) (room : Room) (p : List ℕ) (t : Tables) : Type 0 where
  pub head : head_of p ≡ ok t.head
  pub counts : check_counts room p t.head ≡ ok tt
  pub propositions : rows proposition_row t.head.counts.propositions first p t.head.next ≡ ok t.propositions
  pub proofs : rows (proof_row rules t.head.counts) t.head.counts.proofs none_owned p t.propositions.next ≡ ok t.proofs
  pub witnesses_owned : t.proofs.state.witness ≡ t.head.counts.witnesses
  pub parents_owned : t.proofs.state.parent ≡ t.head.counts.parents
  pub witnesses : rows (witness_row (span_width t.head.schema) t.head.counts) t.head.counts.witnesses 0 p t.proofs.next
      ≡ ok t.witnesses
  pub parents : rows parent_row t.head.counts.parents tt p t.witnesses.next ≡ ok t.parents
  pub whole : t.parents.next ≡ length p

module _ (rules : List Rule) (room : Room) (p : List ℕ) (t : Tables) (read : tables_of rules room p ≡ ok t) where
  pub steps : Steps rules room p t
  unfolding tables_of
  steps =
      let a = bind_ok (checked_head room p) _ read in
      let width : ℕ = span_width a.0.schema in
      let b = bind_ok (tables_after rules width a.0.counts p a.0.next) _ a.2 in
      let h = head_steps room p a.0 a.1 in
      let f : FourSteps rules width a.0.counts p a.0.next b.0 = four_steps rules width a.0.counts p a.0.next b.0 b.1 in
      subst (Steps rules room p) (ok_same b.2)
      (record {
        head = h.0;
        counts = h.1;
        propositions = f.propositions;
        proofs = f.proofs;
        witnesses_owned = f.witnesses_owned;
        parents_owned = f.parents_owned;
        witnesses = f.rest.witnesses;
        parents = f.rest.parents;
        whole = f.rest.whole;
      })

  proofs_read : Read proof_item after_proof (GoodProof rules t.head.counts) t.head.counts.proofs none_owned t.proofs.state
      (map proof_item t.proofs.entries)
  proofs_read = rows_read proof_item after_proof _ _ (proof_known rules t.head.counts) p _ _ _ t.proofs steps.proofs

  abbrev width : ℕ
  width = span_width t.head.schema

  witnesses_read : Read witness_item (λ w x. suc w) (GoodWitness width t.head.counts) t.head.counts.witnesses 0 t.witnesses.state
      (map witness_item t.witnesses.entries)
  witnesses_read = rows_read witness_item (λ w x. suc w) _ _ (witness_known width t.head.counts) p _ _ _ t.witnesses steps.witnesses

  abbrev s : Section
  s = section_of t

  proof_total_lem : proof_total s ≡ t.head.counts.proofs
  unfolding section_of proof_total
  proof_total_lem = proofs_read.total

  witness_total_lem : witness_total s ≡ t.head.counts.witnesses
  unfolding section_of witness_total
  witness_total_lem = witnesses_read.total

  parent_total_lem : parent_total s ≡ t.head.counts.parents
  unfolding section_of parent_total
  parent_total_lem = length-map t.parents.entries parent_item ∙ trace_length parent_row p (trace parent_row p _ _ _ t.parents steps.parents)

  -- the state before the i-th proof, and after the last
  before : ℕ → Unowned
  before = state_at proof_item after_proof none_owned (map proof_item t.proofs.entries)

  after_last : before (proof_total s) ≡ t.proofs.state
  unfolding before
  after_last = rw proof_total_lem (sym proofs_read.last)

  good_proof : (i : ℕ) → i < proof_total s → GoodProof rules t.head.counts (before i) (proof_at s i)
  unfolding section_of proof_at before
  good_proof i l = proofs_read.good no_proof i (omega (arith, proof_total_lem))

  good_witness : (w : ℕ) → w < witness_total s → GoodWitness width t.head.counts w (witness_at s w)
  unfolding section_of witness_at witness_total
  good_witness w l =
      let ws : List Witness = map witness_item t.witnesses.entries in
      let n : state_at witness_item (λ w x. suc w) 0 ws w ≡ w =
      omega (arith, state_sum witness_item (λ w x. suc w) (λ w. w) (λ x. 1) (λ w x. omega arith) no_witness ws 0 w (omega arith), sum_ones w) in
      subst (λ (v : ℕ). GoodWitness width t.head.counts v (witness_at s w)) n (witnesses_read.good no_witness w (omega (arith, witness_total_lem)))

  -- what each proof adds to a number of the state
  sums : (f : Unowned → ℕ) (g : Proof → ℕ) → ((u : Unowned) (q : Proof) → f (after_proof u q) ≡ f u + g q) → f none_owned ≡ 0
      → (i : ℕ) → i ≤ proof_total s → f (before i) ≡ sum_to (λ k. g (proof_at s k)) i
  unfolding section_of proof_at proof_total before
  sums f g step z i l =
      let ps : List Proof = map proof_item t.proofs.entries in
      omega (arith, state_sum proof_item after_proof f g step no_proof ps none_owned i l)

  -- the rule of each proof is one of the table
  pub rules_known : (i : ℕ) → i < proof_total s → Memᴰ (proof_at s i).rule rules
  rules_known i l = (good_proof i l).rule

  first_parent_lem : (i : ℕ) → i < proof_total s → (proof_at s i).first_parent ≡ sum_to (λ k. (proof_at s k).parent_count) i
  first_parent_lem i l = (good_proof i l).first_parent ∙ sums (λ u. u.parent) (λ q. q.parent_count) (λ u q. refl) refl i (omega arith)

  parents_owned_lem : sum_to (λ k. (proof_at s k).parent_count) (proof_total s) ≡ parent_total s
  parents_owned_lem =
      sym (sums (λ u. u.parent) (λ q. q.parent_count) (λ u q. refl) refl (proof_total s) (le_refl (proof_total s)))
      ∙ ap (λ (u : Unowned). u.parent) after_last
      ∙ steps.parents_owned
      ∙ sym parent_total_lem

  -- the cells that a proof owns are cells of the table
  pub cells_owned : (i : ℕ) → i < proof_total s → (proof_at s i).first_parent + (proof_at s i).parent_count ≤ parent_total s
  cells_owned i l = omega (arith, first_parent_lem i l, parents_owned_lem, sum_mono (λ k. (proof_at s k).parent_count) i (proof_total s) l)

  pub tables_checked : ((r : Rule) → Memᴰ r rules → Shaped r) → Checked s
  unfolding section_of
  tables_checked shaped =
      record {
        proof_number = λ i l. (good_proof i l).number ∙ sums (λ u. u.proof) (λ q. 1) (λ u q. omega arith) refl i (omega arith) ∙ sum_ones i;
        proof_proposition = λ i l. (good_proof i l).proposition;
        first_witness = λ i l. (good_proof i l).first_witness ∙ sums (λ u. u.witness) (λ q. q.witness_count) (λ u q. refl) refl i (omega arith);
        first_parent = first_parent_lem;
        shaped = λ i l. shaped _ (rules_known i l);
        shape_witnesses = λ i l. (good_proof i l).witnesses;
        shape_parents = λ i l. (good_proof i l).parents;
        shape_operation = λ i l. (good_proof i l).operation;
        witnesses_owned =
            sym (sums (λ u. u.witness) (λ q. q.witness_count) (λ u q. refl) refl (proof_total s) (le_refl (proof_total s)))
            ∙ ap (λ (u : Unowned). u.witness) after_last
            ∙ steps.witnesses_owned
            ∙ sym witness_total_lem;
        parents_owned = parents_owned_lem;
        witness_number = λ w l. (good_witness w l).number;
        witness_proposition = λ w l. (good_witness w l).proposition;
        witness_polarity = λ w l. (good_witness w l).polarity;
        witness_span = λ w l. (good_witness w l).span;
      }
