-- What is unowned after a proof that passed its checks, by its own record, since 17 and 18 passed; and a witness by its size.
use Prim.Native.Nat.{ℕ, suc, ◌+◌}
use mathlib.Core.Path.{◌≡◌, refl, sym, ap, ◌∙◌}
use mathlib.Core.List.{List}
use Rattle.std.specs.Prelude.{Result, Ok, Err}
use native.Mathlib.Numerals.{add-one}
use Rattle.local_format.specs.Refusal.{Refusal}
use Rattle.local_format.specs.Out.{Out, ok, refused, at_offset, held, based}
use Rattle.local_format.specs.Maps.{refusal_out, answer_out}
use Rattle.local_format.specs.declared.refusal.Refusal as code
use Rattle.local_format.specs.Text.{bytes_at}
use Rattle.local_format.proofs.OutLaws.{bind_ok, ok_same, refused_same, never}
use Rattle.derivation.specs.Rule.{Rule, Named, rule_named}
use Rattle.evr0_section.specs.Head.{Counts}
use Rattle.evr0_section.specs.Rows.{Sized, Row}
use Rattle.evr0_section.specs.Witness.{witness_row}
use Rattle.evr0_section.specs.Proof.{ProofRecord, Settled, Unowned, proof_of, has_numbers, check_proof, proof_row}
use Rattle.evr0_section.proofs.RowChecks.{proof_checked, witness_known}
use Rattle.evr0_records.specs.Ruled.{record_by, Ruled, ruled_by}
use Rattle.evr0_tables.specs.Maps.{after_record, Kept, kept_in, Noted, noted_in, size_in}

after_checked : (rules : List Rule) (counts : Counts) (u : Unowned) (name : List ℕ) (r : ProofRecord) (rule : Rule)
    → check_proof rules counts u name r ≡ ok rule
    → after_record r ≡ record { proof = suc u.proof; witness = u.witness + r.witness_count; parent = u.parent + r.parent_count }
after_checked rules counts u name r rule e =
    let g = proof_checked rules counts u name r rule 0 e in
    rw (add-one, g.number, g.first_witness, g.first_parent)

-- no check asks for the number of characters
checked_by : (chars : ℕ → ℕ) (rules : List Rule) (counts : Counts) (u : Unowned) (name : List ℕ) (r : ProofRecord)
    → check_proof rules counts u name (record_by chars r) ≡ check_proof rules counts u name r
unfolding check_proof has_numbers
checked_by chars rules counts u name r = refl

-- ---- A proof's row, by what is told of the proof by the rules of a call, and by its checks
module _ (chars : ℕ → ℕ) (rules : List Rule) (s : List ℕ) where
  pub row_refused : (counts : Counts) (u : Unowned) {q : Refusal} → refused q ≡ ruled_by chars (rule_named rules) s (proof_of s)
      → refused q ≡ noted_in (proof_row rules counts u s)
  unfolding proof_row
  row_refused counts u {q} e = rw (unread (proof_of s) e)
    where
      unread : (x : Out (Sized ProofRecord)) → refused q ≡ ruled_by chars (rule_named rules) s x → x ≡ refused q
      unread (ok r) e = absurd (never e)
      unread (refused p) e = cc

  module _ (p : ProofRecord) (n : ℕ) (m : Named)
      (e : ok (record { proof = record_by chars p; size = n; named = m }) ≡ ruled_by chars (rule_named rules) s (proof_of s)) where
    abbrev name : ProofRecord → List ℕ
    name r = bytes_at s r.rule.start r.rule.len

    -- the record that the definition reads
    read : (x : Sized ProofRecord) × (proof_of s ≡ ok x)
        × ◌≡◌ {A = Ruled} (record { proof = record_by chars x.item; size = x.size; named = rule_named rules (name x.item) })
        (record { proof = record_by chars p; size = n; named = m })
    read = let a = bind_ok (proof_of s) _ (sym e) in (a.0, a.1, ok_same a.2)

    pub name_told : m ≡ rule_named rules (name p)
    name_told = sym (ap (λ (x : Ruled). x.named) read.2) ∙ ap (λ (x : Ruled). rule_named rules (name x.proof)) read.2

    module _ (counts : Counts) (u : Unowned) where
      same_checks : check_proof rules counts u (name read.0.item) read.0.item ≡ check_proof rules counts u (name p) p
      same_checks =
          sym (checked_by chars rules counts u _ read.0.item)
          ∙ ap (λ (x : Ruled). check_proof rules counts u (name x.proof) x.proof) read.2
          ∙ checked_by chars rules counts u _ p

      pub row_unsettled : {q : Refusal} → refused q ≡ check_proof rules counts u (name p) p → refused q ≡ noted_in (proof_row rules counts u s)
      unfolding proof_row
      row_unsettled c = rw (read.1, same_checks, ← c)

      pub row_settled : {rule : Rule} → ok rule ≡ check_proof rules counts u (name p) p
          → ok (record { polarity = rule.polarity; kept = record { size = n; state = after_record p } }) ≡ noted_in (proof_row rules counts u s)
      unfolding proof_row
      row_settled {rule} c =
          ap (λ (x : Ruled). ok (record { polarity = rule.polarity; kept = record { size = x.size; state = after_record x.proof } })) (sym read.2)
          ∙ rw (read.1, same_checks, ← c)
          (ap (λ (v : Unowned). ok (record { polarity = rule.polarity; kept = record { size = read.0.size; state = v } }))
          (after_checked rules counts u _ read.0.item rule (same_checks ∙ sym c)))

-- ---- A record by what is kept of it
module _ {A S : Type 0} where
  pub kept_read : (x : Out (Row A S)) (k : Kept S) → kept_in x ≡ ok k → (r : Row A S) × (x ≡ ok r) × (r.size ≡ k.size) × (r.state ≡ k.state)
  kept_read x k e =
      let a = bind_ok x _ e in
      (a.0, a.1, ap (λ (y : Kept S). y.size) (ok_same a.2), ap (λ (y : Kept S). y.state) (ok_same a.2))

  pub kept_refused : (x : Out (Row A S)) (q : Refusal) → kept_in x ≡ refused q → x ≡ refused q
  kept_refused (ok r) q e = absurd (never (sym e))
  kept_refused (refused p) q e = cc

  pub size_kept : (x : Out (Row A S)) {q : Refusal} → size_in x ≡ refused q → kept_in x ≡ refused q
  size_kept (ok r) e = absurd (never (sym e))
  size_kept (refused p) e = cc

pub noted_kept : (x : Out (Row Settled Unowned)) {n : Noted} → noted_in x ≡ ok n → kept_in x ≡ ok n.kept
noted_kept x e =
    let a = bind_ok x _ e in
    rw a.1 (ap (λ (n : Noted). ok n.kept) (ok_same a.2))

pub noted_refused : (x : Out (Row Settled Unowned)) {q : Refusal} → noted_in x ≡ refused q → kept_in x ≡ refused q
noted_refused (ok r) e = absurd (never (sym e))
noted_refused (refused p) e = cc

pub witness_kept : (width : ℕ) (counts : Counts) (w : ℕ) (s : List ℕ) {n : ℕ} → size_in (witness_row width counts w s) ≡ ok n
    → kept_in (witness_row width counts w s) ≡ ok (record { size = n; state = w + 1 })
witness_kept width counts w s e =
    let a = bind_ok (witness_row width counts w s) _ e in
    let k : a.0.state ≡ w + 1 = (witness_known width counts w s a.0 a.1).state 0 ∙ sym (add-one w) in
    rw (a.1, k, ok_same a.2)

-- ---- A record that was read at a place, or its refusal there
module _ {T A : Type 0} (value : T → A) (place : ℕ) (read : Result T code.Refusal) {given : Out A} (e : answer_out value read ≡ given) where
  pub read_there : {x : T} → ok x ≡ based place (answer_out (λ x. x) read) → given ≡ ok (value x)
  read_there {x} h = go read e h
    where
      go : (y : Result T code.Refusal) → answer_out value y ≡ given → ok x ≡ based place (answer_out (λ x. x) y) → given ≡ ok (value x)
      go (Ok y) k l = sym k ∙ ap (λ (z : T). ok (value z)) (sym (ok_same l))
      go (Err r) k l = absurd (never (sym l))

  pub refused_there : {r : Refusal} → refused r ≡ based place (answer_out (λ x. x) read)
      → (q : Refusal) × (given ≡ refused q) × (r ≡ at_offset q (held place q.offset))
  refused_there {r} h = go read e h
    where
      go : (y : Result T code.Refusal) → answer_out value y ≡ given → refused r ≡ based place (answer_out (λ x. x) y)
          → (q : Refusal) × (given ≡ refused q) × (r ≡ at_offset q (held place q.offset))
      go (Ok y) k l = absurd (never l)
      go (Err q) k l = (refusal_out q, sym k, refused_same l)
