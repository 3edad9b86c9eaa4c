-- Schemas: which give 10 and where, and what a reader of schema 1 gives. Both readers test the schema before anything else of the payload;
-- behind the test, at schema 1, their definitions agree step by step.
use Prim.Native.Nat.{ℕ, ◌+◌, ◌≤◌}
use mathlib.Core.Path.{◌≡◌, refl, sym, ap, ◌∙◌}
use mathlib.Core.Logic.{⊎_elim}
use mathlib.Core.Bool.{true, false, or-false}
use mathlib.Core.List.{List}
use native.Mathlib.Omega.{arith}
use lib.Dec.{eqb}
use lib.ListN.{length, drop, length-take, length-drop}
use borrow.Author.Tests.{eqb-true, eq-eqb, ne_eqb}
use Rattle.local_format.specs.Out.{Out, ok, refused, refuse, moved, ◌>>=◌}
use Rattle.local_format.specs.Field.{le}
use Rattle.local_format.specs.Text.{bytes_at, section_field, text_at}
use Rattle.local_format.proofs.OutLaws.{on_ok}
use Rattle.local_format.proofs.FieldLaws.{field_ok, field_there, le_take, le_drop}
use Rattle.local_format.proofs.Each.{Each, each_ok, always, on_field, on_passed, steps}
use Rattle.derivation.specs.Rule.{Rule}
use Rattle.derivation.proofs.Tests.{either}
use Rattle.evr0_section.specs.Head.{Room, Head, digest_at, counts_at, is_schema, span_width, witness_size, witness_memory, head_of, check_counts, checked_head}
use Rattle.evr0_section.specs.Section.{Frame, frame_at, tables_of, section_in, section_at}
use Rattle.evr0_section.specs.Older.{older_head, older_counts, older_checked, older_tables, older_in, older_at, Carries}
use Rattle.evr0_section.proofs.SectionSteps.{frame_place}
use Rattle.evr0_section.proofs.CheckedTables.{head_steps}

pub on_known : {A B : Type 0} (x : Out A) (f g : A → Out B) → ((a : A) → x ≡ ok a → f a ≡ g a) → (x >>= f) ≡ (x >>= g)
on_known (ok a) f g h = h a refl
on_known (refused r) f g h = refl

-- ---- The width of a span's ends
module _ {schema : ℕ} where
  pub wide : schema ≡ 2 → span_width schema ≡ 8
  unfolding span_width
  wide e = rw (eq-eqb schema 2 e)

  pub narrow : (schema ≡ 2 → ⊥) → span_width schema ≡ 4
  unfolding span_width
  narrow other = rw (ne_eqb schema 2 other)

-- ---- The sizes that 13 and 14 count
pub sizes_1 : (witness_size (span_width 1) ≡ 84) × (witness_memory 1 ≡ 84)
unfolding span_width witness_memory
sizes_1 = (refl, refl)

pub sizes_2 : (witness_size (span_width 2) ≡ 92) × (witness_memory 2 ≡ 96)
unfolding span_width witness_memory
sizes_2 = (refl, refl)

-- ---- The schema of a head

pub record SchemaRead (p : List ℕ) (h : Head) : Type 0 where
  pub there : 2 ≤ length p
  pub value : h.schema ≡ le 2 p 0
  pub known : is_schema (le 2 p 0) ≡ true

schema_read : (p : List ℕ) (h : Head) → 2 ≤ length p → h.schema ≡ le 2 p 0 → is_schema (le 2 p 0) ≡ true → SchemaRead p h
schema_read p h l e t = record { there = l; value = e; known = t }

head_schema : (p : List ℕ) → Each (SchemaRead p) always (head_of p)
unfolding head_of counts_at digest_at text_at
head_schema p =
    on_field 5 2 p 0 _ tt λ a.
    on_passed (is_schema (le 2 p 0)) 10 2 _ (λ f. tt) λ t. search (steps, schema_read) depth 60 fits 4000

-- a frame whose payload has at least two bytes
schema_in : (s : List ℕ) (at len : ℕ) → 2 ≤ len → le 2 (bytes_at s at len) 0 ≡ le 2 s at
schema_in s at len h = let k : at + 0 ≡ at = omega arith in le_take 2 (drop at s) len 0 (omega arith) ∙ le_drop 2 s at 0 ∙ ap (le 2 s) k

-- ---- A payload whose schema is not 2

module _ (p : List ℕ) (other : 2 ≤ length p → le 2 p 0 ≡ 2 → ⊥) where
  heads_same : older_head p ≡ head_of p
  unfolding older_head head_of
  heads_same =
      on_known (section_field 2 p 0) _ _ λ schema e.
      let (next, inside, value) = field_ok 5 2 p 0 e in
      let no : eqb schema.value 2 ≡ false = ne_eqb schema.value 2 (λ two. other inside (sym value ∙ two)) in
      rw (no, or-false)

  schema_1 : (h : Head) → head_of p ≡ ok h → h.schema ≡ 1
  schema_1 h e =
      let a = each_ok (head_schema p) e in
      ⊎_elim
      (λ t. a.value ∙ eqb-true (le 2 p 0) 1 t)
      (λ t. absurd (other a.there (eqb-true (le 2 p 0) 2 t)))
      (either (eqb (le 2 p 0) 1) (eqb (le 2 p 0) 2) a.known)

  module _ (rules : List Rule) (room : Room) where
    counts_same : (h : Head) → h.schema ≡ 1 → older_counts room p h ≡ check_counts room p h
    unfolding check_counts older_counts span_width witness_memory
    counts_same h e = rw e

    checked_same : older_checked room p ≡ checked_head room p
    unfolding older_checked checked_head
    checked_same = rw heads_same (on_known (head_of p) _ _ λ h e. rw (counts_same h (schema_1 h e)))

    tables_same : older_tables rules room p ≡ tables_of rules room p
    unfolding older_tables tables_of
    tables_same =
        rw checked_same (on_known (checked_head room p) _ _ λ h e.
        let one = schema_1 h (head_steps room p h e).0 in
        rw (narrow {schema = h.schema} (λ two. omega arith)))

    payload_same : (cursor : ℕ) → older_in rules room p cursor ≡ section_in rules room p cursor
    unfolding older_in section_in
    payload_same cursor = rw tables_same

-- ---- A payload of at least two bytes whose schema a reader does not know

module _ (p : List ℕ) (there : 2 ≤ length p) where
  older_10 : (le 2 p 0 ≡ 1 → ⊥) → older_head p ≡ refuse 10 2
  unfolding older_head
  older_10 one = on_ok _ (field_there 5 2 p 0 there) ∙ rw (ne_eqb _ _ one)

  newer_10 : (le 2 p 0 ≡ 1 → ⊥) → (le 2 p 0 ≡ 2 → ⊥) → head_of p ≡ refuse 10 2
  unfolding head_of
  newer_10 one two = on_ok _ (field_there 5 2 p 0 there) ∙ rw (ne_eqb _ _ one, ne_eqb _ _ two)

-- ---- Sections

module _ (rules : List Rule) (room : Room) (s : List ℕ) (cursor : ℕ) where
  -- on every section but those of schema 2 a reader of schema 1 gives what the current one gives
  pub older_same : (Carries 2 s cursor → ⊥) → older_at rules room s cursor ≡ section_at rules room s cursor
  unfolding older_at section_at
  older_same other =
      on_known (frame_at s cursor) _ _ λ f e.
      let p : List ℕ = bytes_at s f.start f.len in
      let short : length p ≤ f.len = rw length-take (omega arith) in
      ap (moved f.start) (payload_same p (λ there two.
      other (record { frame = f; framed = e; there = omega arith; is = sym (schema_in s f.start f.len (omega arith)) ∙ two })) rules room _)

  module _ (schema : ℕ) (carries : Carries schema s cursor) where
    abbrev f : Frame
    f = carries.frame

    whole : 2 ≤ length (bytes_at s f.start f.len)
    whole = simp (length-take, length-drop) (omega (arith, carries.there, (frame_place s cursor carries.framed).1))

    schema_is : le 2 (bytes_at s f.start f.len) 0 ≡ schema
    schema_is = schema_in s f.start f.len carries.there ∙ carries.is

    -- a reader of schema 1 gives 10 on every other schema, and so on 2
    pub older_refuses : (schema ≡ 1 → ⊥) → older_at rules room s cursor ≡ refuse 10 (f.start + 2)
    unfolding older_at older_in older_tables older_checked
    older_refuses one = on_ok _ carries.framed ∙ rw (older_10 (bytes_at s f.start f.len) whole (λ e. one (sym schema_is ∙ e)))

    -- and the current one on every schema but 1 and 2
    pub others_refused : (schema ≡ 1 → ⊥) → (schema ≡ 2 → ⊥) → section_at rules room s cursor ≡ refuse 10 (f.start + 2)
    unfolding section_at section_in tables_of checked_head
    others_refused one two =
        on_ok _ carries.framed
        ∙ rw (newer_10 (bytes_at s f.start f.len) whole (λ e. one (sym schema_is ∙ e)) (λ e. two (sym schema_is ∙ e)))
