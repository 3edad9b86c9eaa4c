-- Where the fields of a record that was read lie in the payload: the steps of its reading give the record in terms of the bytes from its
-- start on, and each field is then found in the payload.
use Prim.Native.Nat.{ℕ, ◌+◌, ◌-◌, ◌≤◌}
use mathlib.Core.Path.{◌≡◌, refl, ap, ◌∙◌, subst}
use mathlib.Core.List.{List}
use native.Mathlib.Omega.{arith}
use lib.ListN.{length, drop, length-drop}
use Rattle.local_format.specs.Out.{ok}
use Rattle.local_format.specs.Field.{le}
use Rattle.local_format.specs.Text.{bytes_at, text_at}
use Rattle.local_format.proofs.FieldLaws.{le_drop}
use Rattle.local_format.proofs.Each.{Each, each_ok, always, steps}
use Rattle.evr0_section.specs.Rows.{Sized, Row}
use Rattle.evr0_section.specs.Head.{digest_at, witness_size}
use Rattle.evr0_section.specs.Proof.{ProofRecord, zeros_at, proof_of}
use Rattle.evr0_section.specs.Witness.{WitnessRecord, witness_of, parent_row}

-- ---- Records at the front of s

-- a record of this form, which ends within s
record Reads {A : Type 0} (s : List ℕ) (form : A) (size : ℕ) (x : Sized A) : Type 0 where
  is : record { item = form; size = size } ≡ x
  inside : size ≤ length s

reads : {A : Type 0} (s : List ℕ) (form : A) (size : ℕ) (x : Sized A) → record { item = form; size = size } ≡ x → size ≤ length s → Reads s form size x
reads s form size x e h = record { is = e; inside = h }

-- a proof, whose rule text has so many characters
abbrev proof_form : List ℕ → ℕ → ProofRecord
proof_form s chars =
    let n : ℕ = 10 + le 2 s 8 in
    record {
      number = le 4 s 0;
      proposition = le 4 s 4;
      rule = record { start = 10; len = le 2 s 8; chars = chars; next = n };
      authority = le 4 s n;
      first_witness = le 4 s (n + 4);
      witness_count = le 4 s (n + 4 + 4);
      first_parent = le 4 s (n + 4 + 4 + 4);
      parent_count = le 4 s (n + 4 + 4 + 4 + 4);
      operation = le 1 s (n + 4 + 4 + 4 + 4 + 4);
    }

proof_reads : (s : List ℕ) → Each (λ x. Reads s (proof_form s x.item.rule.chars) (10 + le 2 s 8 + 4 + 4 + 4 + 4 + 4 + 1 + 3) x) always (proof_of s)
unfolding proof_of zeros_at text_at
proof_reads s = search (steps, reads) depth 60 fits 4000

-- a witness
abbrev witness_form : ℕ → List ℕ → WitnessRecord
witness_form width s =
    record {
      number = le 4 s 0;
      proposition = le 4 s 4;
      polarity = le 1 s 8;
      file_digest = bytes_at s 12 32;
      span_start = le width s 44;
      span_end = le width s (44 + width);
      origin_digest = bytes_at s (44 + width + width) 32;
    }

witness_reads : (width : ℕ) (s : List ℕ) → Each (Reads s (witness_form width s) (44 + width + width + 32)) always (witness_of width s)
unfolding witness_of zeros_at digest_at
witness_reads width s = search (steps, reads) depth 60 fits 4000

module _ (p : List ℕ) (at : ℕ) where
  -- a field k bytes after the start of the record
  lies : (width k place : ℕ) → at + k ≡ place → le width (drop at p) k ≡ le width p place
  lies width k place e = le_drop width p at k ∙ ap (le width p) e

  pub record ProofLies (x : Sized ProofRecord) : Type 0 where
    pub len : x.item.rule.len ≡ le 2 p (at + 8)
    pub start : x.item.rule.start ≡ 10
    pub size : x.size ≡ 34 + x.item.rule.len
    pub inside : 34 + x.item.rule.len ≤ length p - at
    pub number : x.item.number ≡ le 4 p at
    pub proposition : x.item.proposition ≡ le 4 p (at + 4)
    pub authority : x.item.authority ≡ le 4 p (at + 10 + x.item.rule.len)
    pub first_witness : x.item.first_witness ≡ le 4 p (at + 10 + x.item.rule.len + 4)
    pub witness_count : x.item.witness_count ≡ le 4 p (at + 10 + x.item.rule.len + 8)
    pub first_parent : x.item.first_parent ≡ le 4 p (at + 10 + x.item.rule.len + 12)
    pub parent_count : x.item.parent_count ≡ le 4 p (at + 10 + x.item.rule.len + 16)
    pub operation : x.item.operation ≡ le 1 p (at + 10 + x.item.rule.len + 20)

  pub proof_lies : (x : Sized ProofRecord) → proof_of (drop at p) ≡ ok x → ProofLies x
  proof_lies x e =
      let h = each_ok (proof_reads (drop at p)) e in
      let n : ℕ = le 2 (drop at p) 8 in
      let inside = h.inside in
      let l = length-drop at p in
      subst ProofLies h.is
      (record {
        len = lies 2 8 (at + 8) refl;
        start = refl;
        size = omega arith;
        inside = omega arith;
        number = lies 4 0 at (omega arith);
        proposition = lies 4 4 (at + 4) refl;
        authority = lies 4 (10 + n) (at + 10 + n) (omega arith);
        first_witness = lies 4 (10 + n + 4) (at + 10 + n + 4) (omega arith);
        witness_count = lies 4 (10 + n + 4 + 4) (at + 10 + n + 8) (omega arith);
        first_parent = lies 4 (10 + n + 4 + 4 + 4) (at + 10 + n + 12) (omega arith);
        parent_count = lies 4 (10 + n + 4 + 4 + 4 + 4) (at + 10 + n + 16) (omega arith);
        operation = lies 1 (10 + n + 4 + 4 + 4 + 4 + 4) (at + 10 + n + 20) (omega arith);
      })

  -- over the width of a span's ends
  pub record WitnessLies (width : ℕ) (x : Sized WitnessRecord) : Type 0 where
    pub size : x.size ≡ witness_size width
    pub number : x.item.number ≡ le 4 p at
    pub proposition : x.item.proposition ≡ le 4 p (at + 4)
    pub polarity : x.item.polarity ≡ le 1 p (at + 8)
    pub span_start : x.item.span_start ≡ le width p (at + 44)
    pub span_end : x.item.span_end ≡ le width p (at + 44 + width)

  pub witness_lies : (width : ℕ) (x : Sized WitnessRecord) → witness_of width (drop at p) ≡ ok x → WitnessLies width x
  witness_lies width x e =
      subst (WitnessLies width) (each_ok (witness_reads width (drop at p)) e).is
      (record {
        size = omega arith;
        number = lies 4 0 at (omega arith);
        proposition = lies 4 4 (at + 4) refl;
        polarity = lies 1 8 (at + 8) refl;
        span_start = lies width 44 (at + 44) refl;
        span_end = lies width (44 + width) (at + 44 + width) (omega arith);
      })

  pub parent_lies : (u : Unit {0}) (r : Row ℕ (Unit {0})) → parent_row u (drop at p) ≡ ok r → (r.item ≡ le 4 p at) × (r.size ≡ 4)
  unfolding parent_row
  parent_lies u r e =
      let cell : Each (λ r. record { item = le 4 (drop at p) 0; size = 4; state = u } ≡ r) always (parent_row u (drop at p)) = search steps in
      rw (← each_ok cell e) (lies 4 0 at (omega arith), refl)
