-- The words of a record that was read are its fields: the steps of its reading say where in the payload each field lies, and a field of one
-- byte before three reserved bytes, which are zeros, is the field of all four.
use Prim.Native.Nat.{ℕ, ◌+◌, ◌*◌, ◌≤◌}
use mathlib.Core.Path.{◌≡◌, refl, ap, ap₂, sym, ◌∙◌}
use mathlib.Core.Bool.{Bool, true, false, cond}
use mathlib.Core.List.{List, [], ◌∷◌}
use native.Mathlib.Omega.{arith}
use lib.Dec.{eqb, leb}
use lib.ListN.{length, take, drop, length-drop}
use lib.Seq.{drop-drop}
use borrow.Author.Tests.{eqb-true, le-leb, leb-true}
use Rattle.utf8.specs.Utf8.{Decoded, ill, decode}
use Rattle.local_format.specs.Out.{Out, ok, refused, ◌>>=◌}
use Rattle.local_format.specs.Field.{le, field}
use Rattle.local_format.specs.Text.{Span, or_ill, bytes_at, section_field, text_at, decode_at, string_at}
use Rattle.local_format.proofs.OutLaws.{never, ok_same, bind_ok, checked_ok}
use Rattle.local_format.proofs.FieldLaws.{field_ok, le_drop}
use Rattle.local_format.proofs.Each.{Each, refuses, each_ok, always, steps}
use Rattle.evr0_section.specs.Rows.{Sized, Row}
use Rattle.evr0_section.specs.Head.{digest_at, witness_size}
use Rattle.evr0_section.specs.Proposition.{Proposition, proposition_of}
use Rattle.evr0_section.specs.Proof.{ProofRecord, zeros_at, proof_of}
use Rattle.evr0_section.specs.Witness.{WitnessRecord, witness_of, parent_row}
use Rattle.evr0_section.proofs.RecordLaws.{proof_lies, witness_lies, parent_lies}
use Rattle.record_words.specs.Words.{fields, text_whole, text_words, witness_whole, span_words, witness_words}
use Rattle.record_words.specs.Fields.{Is, proposition_fields, proof_fields, text_fields, IsWitness}

-- ---- Reserved bytes

with_zeros : (s : List ℕ) (at : ℕ) → le 3 s (at + 1) ≡ 0 → le 4 s at ≡ le 1 s at
unfolding le
with_zeros s at e = omega arith

zeros_are : (s : List ℕ) (at : ℕ) {next : ℕ} → zeros_at s at ≡ ok next → (le 3 s at ≡ 0) × (next ≡ at + 3)
unfolding zeros_at
zeros_are s at e =
    let (g, f, e1) = bind_ok (section_field 3 s at) _ e in
    let (t, e2) = checked_ok (eqb g.value 0) 9 g.next _ e1 in
    let (n, h, v) = field_ok 5 3 s at f in
    let z : g.value ≡ 0 = eqb-true g.value 0 t in
    (sym v ∙ z, sym (ok_same e2) ∙ n)

-- a step that asks for them
on_zeros : {A : Type 0} {P : A → Type 0} (s : List ℕ) (at : ℕ) (f : ℕ → Out A) → (le 3 s at ≡ 0 → Each P always (f (at + 3)))
    → Each P always (zeros_at s at >>= f)
on_zeros {A} {P} s at f k = go (zeros_at s at) refl
  where
    go : (y : Out ℕ) → zeros_at s at ≡ y → Each P always (y >>= f)
    go (ok next) e = let (z, n) = zeros_are s at e in rw n (k z)
    go (refused r) e = refuses tt

-- a record that ends with them
record Ends {A : Type 0} (s : List ℕ) (x : Sized A) : Type 0 where
  place : ℕ
  zeros : le 3 s place ≡ 0
  size : x.size ≡ place + 3

ends : {A : Type 0} (s : List ℕ) (item : A) (k : ℕ) → le 3 s k ≡ 0 → Ends s (record { item = item; size = k + 3 })
ends s item k z = record { place = k; zeros = z; size = refl }

proof_ends : (s : List ℕ) → Each (Ends s) always (proof_of s)
unfolding proof_of text_at
proof_ends s = search (steps, on_zeros, ends) depth 60 fits 4000

-- those between a witness's polarity and its first digest
record After (width : ℕ) (s : List ℕ) (w : WitnessRecord) : Type 0 where
  zeros : le 3 s 9 ≡ 0
  file : w.file_digest ≡ bytes_at s 12 32
  origin : w.origin_digest ≡ bytes_at s (44 + width + width) 32
  inside : 44 + width + width + 32 ≤ length s

after : (width : ℕ) (s : List ℕ) (w : WitnessRecord) → le 3 s 9 ≡ 0 → w.file_digest ≡ bytes_at s 12 32
    → w.origin_digest ≡ bytes_at s (44 + width + width) 32 → 44 + width + width + 32 ≤ length s → After width s w
after width s w z f o h = record { zeros = z; file = f; origin = o; inside = h }

witness_after : (width : ℕ) (s : List ℕ) → Each (λ x. After width s x.item) always (witness_of width s)
unfolding witness_of digest_at
witness_after width s = search (steps, on_zeros, after) depth 60 fits 4000

-- a proposition
record Lies (s : List ℕ) (x : Sized Proposition) : Type 0 where
  start : x.item.kind.start ≡ 2
  len : x.item.kind.len ≡ le 2 s 0
  owner : x.item.owner ≡ le 4 s (2 + le 2 s 0)
  scope : x.item.scope ≡ le 4 s (2 + le 2 s 0 + 4)
  type : x.item.type ≡ le 4 s (2 + le 2 s 0 + 4 + 4)
  inside : 2 + le 2 s 0 + 4 + 4 + 4 ≤ length s

lies : (s : List ℕ) (chars : ℕ) → 2 + le 2 s 0 + 4 + 4 + 4 ≤ length s
    → Lies s (record {
      item = record {
        kind = record { start = 2; len = le 2 s 0; chars = chars; next = 2 + le 2 s 0 };
        owner = le 4 s (2 + le 2 s 0);
        scope = le 4 s (2 + le 2 s 0 + 4);
        type = le 4 s (2 + le 2 s 0 + 4 + 4);
      };
      size = 2 + le 2 s 0 + 4 + 4 + 4;
    })
lies s chars h = record { start = refl; len = refl; owner = refl; scope = refl; type = refl; inside = h }

proposition_lies : (s : List ℕ) → Each (Lies s) always (proposition_of s)
unfolding proposition_of text_at
proposition_lies s = search (steps, lies) depth 60 fits 4000

-- a text: its place, its length, and that it is there
record Spans (s : List ℕ) (at : ℕ) (t : Span) : Type 0 where
  start : t.start ≡ at + 2
  len : t.len ≡ le 2 s at
  inside : at + 2 + le 2 s at ≤ length s

spans : (s : List ℕ) (at chars next : ℕ) → at + 2 + le 2 s at ≤ length s
    → Spans s at (record { start = at + 2; len = le 2 s at; chars = chars; next = next })
spans s at chars next h = record { start = refl; len = refl; inside = h }

text_spans : (s : List ℕ) (at : ℕ) → Each (Spans s at) always (text_at s at)
unfolding text_at
text_spans s at = search (steps, spans) depth 60 fits 4000

not_ill : (n at : ℕ) (b : Bool) (d : Decoded) {cs : List ℕ} → or_ill n at (cond b d ill) ≡ ok cs → b ≡ true
not_ill n at true d e = refl
not_ill n at false d e = absurd (never e)

string_spans : (s : List ℕ) (at : ℕ) {t : Span} → string_at s at ≡ ok t → Spans s at t
unfolding string_at decode_at
string_spans s at {t} e =
    let (size, f, e1) = bind_ok (field 32 2 s at) _ e in
    let (c, e2) = checked_ok (leb size.value 1024) 33 size.next _ e1 in
    let there : Bool = leb (size.next + size.value) (length s) in
    let (cs, d, e3) = bind_ok (or_ill 34 size.next (cond there (decode (bytes_at s size.next size.value)) ill)) _ e2 in
    let h = leb-true (size.next + size.value) (length s) (not_ill 34 size.next there _ d) in
    let (n, i, v) = field_ok 32 2 s at f in
    rw (← ok_same e3) (record { start = n; len = v; inside = omega arith })

-- ---- Records with a text

module _ (p : List ℕ) (at : ℕ) where
  -- a field of a record, and where it lies
  lie : {v : ℕ} (k n : ℕ) → v ≡ le 4 p n → k ≡ n → le 4 p k ≡ v
  lie k n e h = ap (le 4 p) h ∙ sym e

  -- a field k bytes after the start of the record
  behind : (width k n : ℕ) → at + k ≡ n → le width (drop at p) k ≡ le width p n
  behind width k n h = le_drop width p at k ∙ ap (le width p) h

  pub proposition_words : (x : Sized Proposition) → proposition_of (drop at p) ≡ ok x → Is 0 3 p at (proposition_fields at x.item)
  unfolding text_whole text_words fields
  proposition_words x e =
      let l = each_ok (proposition_lies (drop at p)) e in
      let n : le 2 (drop at p) 0 ≡ le 2 p (at + 0) = behind 2 0 (at + 0) refl in
      let long = length-drop at p in
      let k : ℕ = 2 + le 2 (drop at p) 0 in
      record {
        whole = le-leb (at + 0 + 2 + le 2 p (at + 0) + 12) (length p) (omega arith);
        words = ap₂ ◌∷◌ (omega arith)
            (ap₂ ◌∷◌ (sym (l.len ∙ n))
            (ap₂ ◌∷◌ (lie _ (at + k) (l.owner ∙ behind 4 k (at + k) refl) (omega arith))
            (ap₂ ◌∷◌ (lie _ (at + (k + 4)) (l.scope ∙ behind 4 (k + 4) (at + (k + 4)) refl) (omega arith))
            (ap₂ ◌∷◌ (lie _ (at + (k + 4 + 4)) (l.type ∙ behind 4 (k + 4 + 4) (at + (k + 4 + 4)) refl) (omega arith)) refl))));
      }

  pub proof_words : (x : Sized ProofRecord) → proof_of (drop at p) ≡ ok x → Is 2 6 p at (proof_fields at x.item)
  unfolding text_whole text_words fields
  proof_words x e =
      let l = proof_lies p at x e in
      let f = each_ok (proof_ends (drop at p)) e in
      let n : ℕ = at + 10 + x.item.rule.len in
      let z : le 3 p (at + f.place) ≡ 0 = sym (le_drop 3 p at f.place) ∙ f.zeros in
      let q : at + f.place ≡ at + 10 + x.item.rule.len + 20 + 1 = omega (arith, l.size, f.size) in
      let w : x.item.operation ≡ le 4 p (at + 10 + x.item.rule.len + 20) =
      l.operation ∙ sym (with_zeros p (at + 10 + x.item.rule.len + 20) (rw q at z))
      in
      record {
        whole = le-leb (at + 8 + 2 + le 2 p (at + 8) + 24) (length p) (omega (arith, l.inside, l.len));
        words = ap₂ ◌∷◌ (sym l.number)
            (ap₂ ◌∷◌ (sym l.proposition)
            (ap₂ ◌∷◌ (omega (arith, l.start))
            (ap₂ ◌∷◌ (sym l.len)
            (ap₂ ◌∷◌ (lie _ n l.authority (omega (arith, l.len)))
            (ap₂ ◌∷◌ (lie _ (n + 4) l.first_witness (omega (arith, l.len)))
            (ap₂ ◌∷◌ (lie _ (n + 8) l.witness_count (omega (arith, l.len)))
            (ap₂ ◌∷◌ (lie _ (n + 12) l.first_parent (omega (arith, l.len)))
            (ap₂ ◌∷◌ (lie _ (n + 16) l.parent_count (omega (arith, l.len)))
            (ap₂ ◌∷◌ (lie _ (n + 20) w (omega (arith, l.len))) refl)))))))));
      }

  -- ---- A witness and a parent cell

  pub witness_words_lem : (width : ℕ) (x : Sized WitnessRecord) → witness_of width (drop at p) ≡ ok x → IsWitness width p at x.item
  unfolding witness_whole witness_words span_words fields
  witness_words_lem width x e =
      let l = witness_lies p at width x e in
      let a = each_ok (witness_after width (drop at p)) e in
      let long = length-drop at p in
      let inside = a.inside in
      let z : le 3 p (at + 8 + 1) ≡ 0 = sym (behind 3 9 (at + 8 + 1) (omega arith)) ∙ a.zeros in
      let place : at + (44 + width + width) ≡ at + 44 + 2 * width = omega arith in
      record {
        whole = le-leb (at + witness_size width) (length p) (omega arith);
        words = ap₂ ◌∷◌ (sym l.number)
            (ap₂ ◌∷◌ (sym l.proposition)
            (ap₂ ◌∷◌ (lie _ (at + 8) (l.polarity ∙ sym (with_zeros p (at + 8) z)) (omega arith))
            (ap (λ (ys : List ℕ). (at + 12) ∷ ys)
            (ap₂ ◌∷◌ (sym l.span_start) (ap₂ ◌∷◌ (sym l.span_end) refl)))));
        file = a.file ∙ ap (take 32) (drop-drop 12 at p);
        origin = a.origin ∙ ap (take 32) (drop-drop (44 + width + width) at p ∙ ap (λ (n : ℕ). drop n p) place);
      }

  pub parent_words : (u : Unit {0}) (r : Row ℕ (Unit {0})) → parent_row u (drop at p) ≡ ok r → fields 1 p at ≡ r.item ∷ []
  unfolding fields
  parent_words u r e = ap₂ ◌∷◌ (sym (parent_lies p at u r e).0) refl

  -- ---- A text of a section, and a string of a block

  spanned : (t : Span) → Spans p at t → Is 0 0 p at (text_fields t)
  unfolding text_whole text_words fields
  spanned t h =
      let inside = h.inside in
      let zero : at + 0 ≡ at = omega arith in
      record {
        whole = rw zero (le-leb (at + 2 + le 2 p at + 0) (length p) (omega arith));
        words = rw zero (ap₂ ◌∷◌ (sym h.start) (ap₂ ◌∷◌ (sym h.len) refl));
      }

  pub text_words_lem : (t : Span) → text_at p at ≡ ok t → Is 0 0 p at (text_fields t)
  text_words_lem t e = spanned t (each_ok (text_spans p at) e)

  pub string_words : (t : Span) → string_at p at ≡ ok t → Is 0 0 p at (text_fields t)
  string_words t e = spanned t (string_spans p at e)
