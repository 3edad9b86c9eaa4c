-- What a row that was read has passed of its own checks: 17 to 21 of a proof, 23 of a witness.
use Prim.Native.Nat.{ℕ, suc, ◌+◌, ◌≤◌, ◌<◌}
use mathlib.Core.Path.{◌≡◌, refl, ap, ◌∙◌, subst}
use mathlib.Core.Bool.{◌&&◌}
use mathlib.Core.List.{List, Memᴰ}
use lib.Dec.{ltb, leb, eqb}
use borrow.Author.Tests.{ltb-true, leb-true, eqb-true}
use Rattle.local_format.specs.Out.{ok}
use Rattle.local_format.specs.Text.{bytes_at}
use Rattle.local_format.proofs.OutLaws.{bind_ok, then_ok, check_ok, checked_ok, ok_same}
use Rattle.derivation.specs.Rule.{Rule, Named, known, unknown, rule_named}
use Rattle.derivation.specs.Section.{Proof, Witness}
use Rattle.derivation.proofs.Tests.{both}
use Rattle.derivation.proofs.Rules.{named}
use Rattle.evr0_section.specs.Rows.{Sized, Row}
use Rattle.evr0_section.specs.Head.{Counts}
use Rattle.evr0_section.specs.Proof.{ProofRecord, Settled, Unowned, proof_of, or_unknown, has_numbers, check_proof, proof_row}
use Rattle.evr0_section.specs.Witness.{WitnessRecord, witness_of, check_witness, witness_row}
use Rattle.evr0_section.specs.Section.{proof_item, witness_item}
use Rattle.evr0_section.proofs.StateLaws.{Known}

-- ---- A proof

-- the state after a proof
abbrev pub after_proof : Unowned → Proof → Unowned
after_proof u p = record { proof = suc u.proof; witness = u.witness + p.witness_count; parent = u.parent + p.parent_count }

module _ (rules : List Rule) (counts : Counts) where
  pub record GoodProof (u : Unowned) (p : Proof) : Type 0 where
    pub number : p.number ≡ u.proof
    pub proposition : p.proposition < counts.propositions
    pub first_witness : p.first_witness ≡ u.witness
    pub first_parent : p.first_parent ≡ u.parent
    pub witnesses_end : u.witness + p.witness_count ≤ counts.witnesses
    pub parents_end : u.parent + p.parent_count ≤ counts.parents
    pub rule : Memᴰ p.rule rules
    pub witnesses : p.witness_count ≡ p.rule.witnesses
    pub parents : p.parent_count ≡ p.rule.parents
    pub operation : p.operation ≡ p.rule.operation

  rule_known : (x : Named) (r : Rule) → or_unknown 20 0 x ≡ ok r → x ≡ known r
  rule_known (known q) r e = ap known (ok_same e)
  rule_known unknown r e = cc

  checked_name : (u : Unowned) (name : List ℕ) (r : ProofRecord) (rule : Rule) → check_proof rules counts u name r ≡ ok rule → rule_named rules name
      ≡ known rule
  unfolding check_proof
  checked_name u name r rule e =
      let a = checked_ok (eqb r.number u.proof && ltb r.proposition counts.propositions) 17 0 _ e in
      let b = checked_ok (eqb r.first_witness u.witness && eqb r.first_parent u.parent) 18 0 _ a.1 in
      let c = checked_ok (leb (u.witness + r.witness_count) counts.witnesses && leb (u.parent + r.parent_count) counts.parents) 19 0 _ b.1 in
      let d = bind_ok (or_unknown 20 0 (rule_named rules name)) _ c.1 in
      let f = checked_ok (has_numbers d.0 r) 21 0 _ d.2 in
      rule_known _ rule (d.1 ∙ f.1)

  pub proof_checked : (u : Unowned) (name : List ℕ) (r : ProofRecord) (rule : Rule) (at : ℕ) → check_proof rules counts u name r ≡ ok rule
      → GoodProof u (proof_item (record { start = at; item = record { proof = r; rule = rule } }))
  unfolding check_proof has_numbers
  proof_checked u name r rule at e =
      let a = checked_ok (eqb r.number u.proof && ltb r.proposition counts.propositions) 17 0 _ e in
      let b = checked_ok (eqb r.first_witness u.witness && eqb r.first_parent u.parent) 18 0 _ a.1 in
      let c = checked_ok (leb (u.witness + r.witness_count) counts.witnesses && leb (u.parent + r.parent_count) counts.parents) 19 0 _ b.1 in
      let d = bind_ok (or_unknown 20 0 (rule_named rules name)) _ c.1 in
      let f = checked_ok (has_numbers d.0 r) 21 0 _ d.2 in
      let q : d.0 ≡ rule = ok_same f.1 in
      let a' = both _ _ a.0 in
      let b' = both _ _ b.0 in
      let c' = both (leb (u.witness + r.witness_count) counts.witnesses) (leb (u.parent + r.parent_count) counts.parents) c.0 in
      let f' = both (eqb r.witness_count d.0.witnesses) _ f.0 in
      let f'' = both (eqb r.parent_count d.0.parents) _ f'.1 in
      record {
        number = eqb-true _ _ a'.0;
        proposition = ltb-true _ _ a'.1;
        first_witness = eqb-true _ _ b'.0;
        first_parent = eqb-true _ _ b'.1;
        witnesses_end = leb-true _ _ c'.0;
        parents_end = leb-true _ _ c'.1;
        rule = (named rules name rule (checked_name u name r rule e)).0;
        witnesses = eqb-true _ _ f'.0 ∙ ap (λ (x : Rule). x.witnesses) q;
        parents = eqb-true _ _ f''.0 ∙ ap (λ (x : Rule). x.parents) q;
        operation = eqb-true _ _ f''.1 ∙ ap (λ (x : Rule). x.operation) q;
      }

  pub proof_known : (u : Unowned) (s : List ℕ) (r : Row Settled Unowned) → proof_row rules counts u s ≡ ok r → Known proof_item after_proof GoodProof u r
  unfolding proof_row
  proof_known u s r e =
      let a = bind_ok (proof_of s) _ e in
      let x : ProofRecord = a.0.item in
      let b = bind_ok (check_proof rules counts u (bytes_at s x.rule.start x.rule.len) x) _ a.2 in
      subst (λ (r : Row Settled Unowned). Known proof_item after_proof GoodProof u r) (ok_same b.2)
      (record { good = λ at. proof_checked u _ x b.0 at b.1; state = λ at. refl })

  -- the record behind a row, and its rule, which the name settles
  pub record Behind (s : List ℕ) (r : Row Settled Unowned) : Type 0 where
    pub proof : Sized ProofRecord
    pub read : proof_of s ≡ ok proof
    pub item : r.item.proof ≡ proof.item
    pub named : rule_named rules (bytes_at s proof.item.rule.start proof.item.rule.len) ≡ known r.item.rule

  pub proof_behind : (u : Unowned) (s : List ℕ) (r : Row Settled Unowned) → proof_row rules counts u s ≡ ok r → Behind s r
  unfolding proof_row
  proof_behind u s r e =
      let a = bind_ok (proof_of s) _ e in
      let x : ProofRecord = a.0.item in
      let b = bind_ok (check_proof rules counts u (bytes_at s x.rule.start x.rule.len) x) _ a.2 in
      subst (Behind s) (ok_same b.2) (record { proof = a.0; read = a.1; item = refl; named = checked_name u _ x b.0 b.1 })

-- ---- A witness

module _ (width : ℕ) (counts : Counts) where
  pub record GoodWitness (w : ℕ) (x : Witness) : Type 0 where
    pub number : x.number ≡ w
    pub proposition : x.proposition < counts.propositions
    pub polarity : x.polarity ≤ 1
    pub span : x.span_start ≤ x.span_end

  witness_checked : (w : ℕ) (r : WitnessRecord) (at : ℕ) → check_witness counts w r ≡ ok tt → GoodWitness w (witness_item (record { start = at; item = r }))
  unfolding check_witness
  witness_checked w r at e =
      let a = both (eqb r.number w) _ (check_ok _ 23 0 e) in
      let b = both (ltb r.proposition counts.propositions) _ a.1 in
      let c = both (leb r.polarity 1) (leb r.span_start r.span_end) b.1 in
      record {
        number = eqb-true _ _ a.0;
        proposition = ltb-true _ _ b.0;
        polarity = leb-true _ _ c.0;
        span = leb-true _ _ c.1;
      }

  pub witness_known : (w : ℕ) (s : List ℕ) (r : Row WitnessRecord ℕ) → witness_row width counts w s ≡ ok r → Known witness_item (λ w x. suc w) GoodWitness w r
  unfolding witness_row
  witness_known w s r e =
      let a = bind_ok (witness_of width s) _ e in
      let b = then_ok (check_witness counts w a.0.item) _ a.2 in
      subst (λ (r : Row WitnessRecord ℕ). Known witness_item (λ w x. suc w) GoodWitness w r) (ok_same b.2)
      (record { good = λ at. witness_checked w a.0.item at b.1; state = λ at. refl })

  -- the record behind a row
  pub witness_behind : (w : ℕ) (s : List ℕ) (r : Row WitnessRecord ℕ) → witness_row width counts w s ≡ ok r
      → (x : Sized WitnessRecord) × (witness_of width s ≡ ok x) × (r.item ≡ x.item) × (r.size ≡ x.size)
  unfolding witness_row
  witness_behind w s r e =
      let a = bind_ok (witness_of width s) _ e in
      let b = then_ok (check_witness counts w a.0.item) _ a.2 in
      rw (← ok_same b.2) (a.0, a.1, refl, refl)
