-- A record at a place, as the reader there answers it; and that its text's place in the payload is one of 64 bits.
use Prim.Native.Nat.{ℕ, ◌+◌, ◌-◌, ◌^◌, ◌≤◌, ◌<◌}
use mathlib.Core.Path.{◌≡◌, subst}
use mathlib.Core.List.{List}
use native.Mathlib.Omega.{arith}
use lib.ListN.{length, drop, length-drop}
use Rattle.local_format.specs.Out.{Out, ok}
use Rattle.local_format.specs.Text.{Span, section_field, text_at}
use Rattle.local_format.proofs.OutLaws.{bind_ok, ok_same}
use Rattle.local_format.proofs.TextLaws.{text_ok}
use Rattle.evr0_section.specs.Rows.{Sized}
use Rattle.evr0_section.specs.Proposition.{Proposition, proposition_of}
use Rattle.evr0_section.specs.Proof.{ProofRecord, zeros_at, proof_of}
use Rattle.evr0_read.specs.Entry.{record_at}

module _ {X A : Type 0} (read : List ℕ → Out X) (place : ℕ → X → A) (p : List ℕ) (start : ℕ) where
  pub record_found : {x : X} {y : A} → read (drop start p) ≡ ok x → y ≡ place start x
      → ok (record { start = start; item = y }) ≡ record_at read place p start
  unfolding record_at
  record_found e f = rw (e, f)

-- ---- Texts

-- a text lies within the part that it was read from
pub record Lies (s : List ℕ) (t : Span) : Type 0 where
  pub some : 1 ≤ t.next
  pub start : t.start ≤ t.next
  pub next : t.next ≤ length s

text_lies : (s : List ℕ) (at : ℕ) {t : Span} → text_at s at ≡ ok t → Lies s t
text_lies s at e = let l = text_ok s at e in record { some = omega arith; start = omega arith; next = l.4 }

pub kind_lies : (s : List ℕ) {x : Sized Proposition} → proposition_of s ≡ ok x → Lies s x.item.kind
unfolding proposition_of
kind_lies s e =
    let (kind, k, e1) = bind_ok (text_at s 0) _ e in
    let (owner, o, e2) = bind_ok (section_field 4 s kind.next) _ e1 in
    let (scope, c, e3) = bind_ok (section_field 4 s owner.next) _ e2 in
    let (type, t, e4) = bind_ok (section_field 4 s scope.next) _ e3 in
    subst (λ (x : Sized Proposition). Lies s x.item.kind) (ok_same e4) (text_lies s 0 k)

pub rule_lies : (s : List ℕ) {x : Sized ProofRecord} → proof_of s ≡ ok x → Lies s x.item.rule
unfolding proof_of
rule_lies s e =
    let (number, a, e1) = bind_ok (section_field 4 s 0) _ e in
    let (proposition, b, e2) = bind_ok (section_field 4 s number.next) _ e1 in
    let (rule, c, e3) = bind_ok (text_at s proposition.next) _ e2 in
    let (authority, d, e4) = bind_ok (section_field 4 s rule.next) _ e3 in
    let (first_witness, f, e5) = bind_ok (section_field 4 s authority.next) _ e4 in
    let (witness_count, g, e6) = bind_ok (section_field 4 s first_witness.next) _ e5 in
    let (first_parent, h, e7) = bind_ok (section_field 4 s witness_count.next) _ e6 in
    let (parent_count, i, e8) = bind_ok (section_field 4 s first_parent.next) _ e7 in
    let (operation, j, e9) = bind_ok (section_field 1 s parent_count.next) _ e8 in
    let (next, k, e10) = bind_ok (zeros_at s operation.next) _ e9 in
    subst (λ (x : Sized ProofRecord). Lies s x.item.rule) (ok_same e10) (text_lies s proposition.next c)

pub place_fits : (p : List ℕ) (start : ℕ) (t : Span) → length p < 2 ^ 64 → Lies (drop start p) t
    → (start + t.start ≤ 18446744073709551615) × (start + t.next ≤ 18446744073709551615)
place_fits p start t l h = let d : t.next ≤ length p - start = rw length-drop at h.next in (omega (arith, h.some, h.start), omega (arith, h.some))
