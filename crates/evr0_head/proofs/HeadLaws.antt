-- Laws of a payload's head and of the checks after its counts.
use Prim.Native.Nat.{ℕ, ◌+◌, ◌-◌, ◌*◌, ◌/◌, ◌≤◌, ◌<◌}
use mathlib.Core.Path.{◌≡◌, ap, subst}
use mathlib.Core.List.{List}
use native.Mathlib.Omega.{arith}
use lib.Dec.{eqb}
use lib.ListN.{length, drop, length-drop}
use Rattle.std.specs.Array.{IsFirstChunk}
use borrow.Author.Tests.{leb-true}
use Rattle.local_format.specs.Refusal.{Refusal}
use Rattle.local_format.specs.Out.{Out, ok, refused, refuse, ◌>>=◌}
use Rattle.local_format.specs.Field.{Got, whole, field_at}
use Rattle.local_format.specs.Text.{Span, section_field, text_at}
use Rattle.local_format.proofs.OutLaws.{ok_same, bind_ok, checked_ok}
use Rattle.local_format.proofs.FieldLaws.{field_ok}
use Rattle.local_format.proofs.TextLaws.{text_ok}
use Rattle.evr0_section.specs.Head.{Counts, Counted, Head, Room, digest_at, counts_at, is_schema, head_of, listed, count_limits, within_limits}
use Rattle.evr0_section.specs.Head.{checked_head}
use Rattle.evr0_head.specs.Checks.{Limited}
use Rattle.evr0_fields.proofs.PlaceLaws.{digest_ok}
use Rattle.evr0_fields.proofs.PartLaws.{by_field, field_in_whole}

module _ (c : Counts) (at : ℕ) where
  pub limited : within_limits (listed c) count_limits at ≡ ok tt → Limited c
  unfolding within_limits
  limited e =
      let a = checked_ok _ _ _ _ e in
      let b = checked_ok _ _ _ _ a.1 in
      let d = checked_ok _ _ _ _ b.1 in
      let f = checked_ok _ _ _ _ d.1 in
      record {
        propositions = leb-true c.propositions 65536 a.0;
        proofs = leb-true c.proofs 65536 b.0;
        witnesses = leb-true c.witnesses 262144 d.0;
        parents = leb-true c.parents 262144 f.0;
      }

-- ---- The counts: where their 16 bytes are not there, the first that is cut is named
module _ (p : List ℕ) (at : ℕ) {rest : List ℕ} (e : rest ≡ drop at p) where
  pub counts_cut : length rest < 16 → refuse 5 (at + length rest / 4 * 4) ≡ counts_at p at
  unfolding counts_at
  counts_cut h =
      let l : length rest ≡ length p - at = rw (e, length-drop) in
      let e8 : at + 4 + 4 ≡ at + 8 = omega arith in
      let e12 : at + 8 + 4 ≡ at + 12 = omega arith in
      by_field 4 p at _ (λ h0. by_field 4 p (at + 4) _ (λ h1. rw e8 (by_field 4 p (at + 8) _ (λ h2. rw e12 (by_field 4 p (at + 12) _
      (λ h3. absurd (omega arith)) (λ k. ap (refuse 5) (omega arith)))) (λ k. ap (refuse 5) (omega arith))))
      (λ k. ap (refuse 5) (omega arith))) (λ k. ap (refuse 5) (omega arith))

  -- where they are, each is read in the part that they are
  pub counts_there : {part : List ℕ} {a b d f : Got} → IsFirstChunk rest part 16
      → whole a ≡ field_at 4 part 0 → whole b ≡ field_at 4 part a.next → whole d ≡ field_at 4 part b.next → whole f ≡ field_at 4 part d.next
      → ok (record {
        counts = record { propositions = a.value; proofs = b.value; witnesses = d.value; parents = f.value };
        next = at + f.next;
      }) ≡ counts_at p at
  unfolding counts_at
  counts_there {part} {a} {b} {d} {f} c fa fb fd ff =
      let m : at + 0 ≡ at = omega arith in
      rw (rw m at (field_in_whole p at 0 e c fa), field_in_whole p at a.next e c fb, field_in_whole p at b.next e c fd, field_in_whole p at d.next e c ff)

-- ---- Where a head that was read lies
module _ (p : List ℕ) (at : ℕ) where
  pub counts_ok : {c : Counted} → counts_at p at ≡ ok c → (c.next ≡ at + 16) × (c.next ≤ length p)
  unfolding counts_at
  counts_ok e =
      let (g1, f1, e1) = bind_ok (section_field 4 p at) _ e in
      let (g2, f2, e2) = bind_ok (section_field 4 p g1.next) _ e1 in
      let (g3, f3, e3) = bind_ok (section_field 4 p g2.next) _ e2 in
      let (g4, f4, e4) = bind_ok (section_field 4 p g3.next) _ e3 in
      let x1 = field_ok 5 4 p at f1 in
      let x2 = field_ok 5 4 p g1.next f2 in
      let x3 = field_ok 5 4 p g2.next f3 in
      let x4 = field_ok 5 4 p g3.next f4 in
      rw (← ok_same e4) (omega arith, omega arith)

-- where the parts of a head lie
pub record Lies (p : List ℕ) (h : Head) : Type 0 where
  pub policy : h.policy_at ≡ 70
  pub issuer : h.issuer_at ≡ 72 + h.policy.len
  pub counts : h.counts_at ≡ 74 + h.policy.len + h.issuer.len
  pub next : h.next ≡ h.counts_at + 16
  pub ends : h.next ≤ length p

lies : (p source contract : List ℕ) (schema epoch : ℕ) {a b c d e : ℕ} (policy issuer : Span) (counted : Counted)
    → a ≡ 0 + 2 → b ≡ a + 2 → c ≡ b + 32 → d ≡ c + 32 → e ≡ d + 2
    → policy.next ≡ e + 2 + policy.len → issuer.next ≡ policy.next + 2 + issuer.len
    → (counted.next ≡ issuer.next + 16) × (counted.next ≤ length p)
    → Lies p
    (record {
      schema = schema;
      source_set = source;
      compiler_contract = contract;
      epoch = epoch;
      policy_at = e;
      policy = policy;
      issuer_at = policy.next;
      issuer = issuer;
      counts = counted.counts;
      counts_at = issuer.next;
      next = counted.next;
    })
lies p source contract schema epoch policy issuer counted h1 h2 h3 h4 h5 h6 h7 h8 =
    record { policy = omega arith; issuer = omega arith; counts = omega arith; next = h8.0; ends = h8.1 }

-- what holds after a step that was read
after : {A B P : Type 0} (x : Out A) (f : A → Out B) {b : B} → (x >>= f) ≡ ok b → ((a : A) → x ≡ ok a → f a ≡ ok b → P) → P
after x f e k = let (a, g, h) = bind_ok x f e in k a g h

pub head_ok : (p : List ℕ) {h : Head} → head_of p ≡ ok h → Lies p h
unfolding head_of
head_ok p e =
    after (section_field 2 p 0) _ e λ schema f1 e1.
    after (section_field 2 p schema.next) _ (checked_ok (is_schema schema.value) 10 schema.next _ e1).1 λ flags f2 e2.
    after (digest_at p flags.next) _ (checked_ok (eqb flags.value 0) 11 flags.next _ e2).1 λ source f3 e3.
    after (digest_at p source.next) _ e3 λ contract f4 e4.
    after (section_field 2 p contract.next) _ e4 λ epoch f5 e5.
    after (text_at p epoch.next) _ e5 λ policy f6 e6.
    after (text_at p policy.next) _ e6 λ issuer f7 e7.
    after (counts_at p issuer.next) _ e7 λ counted f8 e8.
    subst (Lies p) (ok_same e8)
    (lies p source.bytes contract.bytes schema.value epoch.value policy issuer counted
    (field_ok 5 2 p 0 f1).0
    (field_ok 5 2 p schema.next f2).0
    (digest_ok p flags.next f3).0
    (digest_ok p source.next f4).0
    (field_ok 5 2 p contract.next f5).0
    (text_ok p epoch.next f6).3
    (text_ok p policy.next f7).3
    (counts_ok p issuer.next f8))

-- a payload whose head is refused
pub checked_refused : (room : Room) (p : List ℕ) {q : Refusal} → head_of p ≡ refused q → checked_head room p ≡ refused q
unfolding checked_head
checked_refused room p e = rw e
