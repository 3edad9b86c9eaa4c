-- What the payload of an accepted section holds: each proof record at its start, each parent cell at its place, and the first parent among the proofs.
use Prim.Native.Nat.{ℕ, ◌+◌, ◌-◌, ◌*◌, ◌≤◌, ◌<◌}
use mathlib.Core.Path.{◌≡◌, sym, ap, ◌∙◌, subst}
use mathlib.Core.List.{List, [], map}
use native.Mathlib.Omega.{arith}
use lib.ListN.{length, get_or, drop, length-drop, length-map}
use borrow.Author.Tests.{lt-ltb}
use Rattle.local_format.specs.Refusal.{Refusal}
use Rattle.local_format.specs.Out.{ok, refused}
use Rattle.local_format.specs.Field.{le, field_at, whole}
use Rattle.local_format.specs.Text.{section_field}
use Rattle.local_format.proofs.OutLaws.{never, ok_same, bind_ok}
use Rattle.local_format.proofs.FieldLaws.{field_ok, is_whole, le_drop}
use Rattle.local_format.proofs.NumberLaws.{is_there, there_map}
use Rattle.derivation.specs.Rule.{Rule}
use Rattle.derivation.specs.Section as derivation
use Rattle.derivation.specs.Section.{Proof, Checked, no_proof, proof_at, parent_at, proof_total, parent_total}
use Rattle.derivation.specs.Walk.{stay}
use Rattle.derivation.proofs.Along.{first_owned}
use Rattle.derivation.proofs.Demand.{walks_lead}
use Rattle.derivation.proofs.Owners.{sum_mono}
use Rattle.evr0_section.specs.Rows.{Sized, Row}
use Rattle.evr0_section.specs.Proof.{ProofRecord, Settled, proof_row}
use Rattle.evr0_section.specs.Witness.{parent_row}
use Rattle.evr0_section.specs.Section.{Section, proof_item, parent_item, section_of}
use Rattle.evr0_section.proofs.RowChecks.{proof_behind}
use Rattle.evr0_section.proofs.RowsLaws.{trace, trace_length}
use Rattle.evr0_section.proofs.CheckedTables.{Steps, steps, tables_checked}
use Rattle.evr0_rulings.specs.Held.{Held, proof_in}
use Rattle.evr0_read.proofs.FoundLaws.{trace_found, fixed_start}

-- the proof of a record and its rule
abbrev pub proof_of_record : ProofRecord → Rule → Proof
proof_of_record r rule = proof_item (record { start = 0; item = record { proof = r; rule = rule } })

-- a parent cell has 4 bytes, which are its number
pub parent_cell : (u : Unit {0}) (s : List ℕ) (r : Row ℕ (Unit {0})) → parent_row u s ≡ ok r → (r.size ≡ 4) × (r.item ≡ le 4 s 0) × (4 ≤ length s)
unfolding parent_row
parent_cell u s r e =
    let g = bind_ok (section_field 4 s 0) _ e in
    let f = field_ok 5 4 s 0 g.1 in
    subst (λ (x : Row ℕ (Unit {0})). (x.size ≡ 4) × (x.item ≡ le 4 s 0) × (4 ≤ length s)) (ok_same g.2) (f.0, f.2, f.1)

module _ (p starts : List ℕ) (d : Section) (held : Held p starts d) where
  abbrev pub s : derivation.Section
  s = section_of d.tables

  read : Steps held.rules held.room p d.tables
  read = steps held.rules held.room p d.tables held.tables

  checked : Checked s
  checked = tables_checked held.rules held.room p d.tables held.tables held.shaped

  pub total : proof_total s ≡ length starts
  unfolding section_of proof_total
  total = length-map d.tables.proofs.entries proof_item ∙ sym (ap length held.at ∙ length-map d.tables.proofs.entries (λ e. e.start))

  -- the record with a number is that proof of the section
  held_proof : (k : ℕ) → k < length starts
      → (q : Sized ProofRecord) × (rule : Rule) × (proof_in p starts k ≡ ok q) × (proof_at s k ≡ proof_of_record q.item rule)
  unfolding proof_in proof_at section_of
  held_proof k h =
      let es = d.tables.proofs.entries in
      let row = proof_row held.rules d.tables.head.counts in
      let (e, n) = is_there k es (omega (arith, ap length held.at, length-map es (λ e. e.start))) in
      let f = trace_found row p (trace row p _ _ _ d.tables.proofs read.proofs) k n in
      let b = proof_behind held.rules d.tables.head.counts f.state (drop e.start p) f.read f.reads in
      let same : b.proof.item ≡ e.item.proof = sym b.item ∙ ap (λ (x : Settled). x.proof) f.item in
      let start : get_or starts k 0 ≡ e.start = ap (λ (x : List ℕ). get_or x k 0) held.at ∙ there_map (λ e. e.start) 0 es k n in (
        b.proof,
        e.item.rule,
        rw (lt-ltb k (length starts) h, start) b.read,
        there_map proof_item no_proof es k n ∙ ap (λ (x : ProofRecord). proof_of_record x e.item.rule) (sym same),
      )

  pub proof_there : (k : ℕ) {r : Refusal} → k < length starts → proof_in p starts k ≡ refused r → ⊥
  proof_there k h e = never (sym e ∙ (held_proof k h).2)

  pub proof_is : (k : ℕ) {x : Sized ProofRecord} → k < length starts → proof_in p starts k ≡ ok x
      → (rule : Rule) × (proof_at s k ≡ proof_of_record x.item rule)
  proof_is k h e = let q = held_proof k h in (q.1, q.3 ∙ ap (λ (x : Sized ProofRecord). proof_of_record x.item q.1) (ok_same (sym q.2 ∙ e)))

  -- the first parent of a proof that has one
  pub first_cell : (k : ℕ) → k < length starts → 0 < (proof_at s k).parent_count
      → (proof_at s k).first_parent < parent_total s
  first_cell k h c =
      let l : k < proof_total s = omega (arith, total) in
      omega (
        arith,
        checked.first_parent k l,
        checked.parents_owned,
        sum_mono (λ i. (proof_at s i).parent_count) k
            (proof_total s) l,
      )

  pub first_there : (k : ℕ) → k < length starts → 0 < (proof_at s k).parent_count
      → parent_at s (proof_at s k).first_parent < length starts
  first_there k h c =
      let l : k < proof_total s = omega (arith, total) in
      let j = (walks_lead d.tables.witnesses.next s checked d.depths held.depths k [] k (stay l)).pickable _
      (first_owned s k c) in
      omega (arith, j.1, checked.proof_number j.0 j.1, j.2, total)

  -- a parent cell
  pub held_parent : (c : ℕ) → c < parent_total s
      → field_at 4 (drop d.tables.witnesses.next p) (4 * c) ≡ whole (record { value = parent_at s c; next = 4 * c + 4 })
  unfolding parent_at parent_total section_of
  held_parent c h =
      let es = d.tables.parents.entries in
      let at = d.tables.witnesses.next in
      let w = trace parent_row p _ _ _ d.tables.parents read.parents in
      let l : c < d.tables.head.counts.parents = omega (arith, trace_length parent_row p w, length-map es parent_item) in
      let (e, n) = is_there c es (omega (arith, trace_length parent_row p w)) in
      let f = trace_found parent_row p w c n in
      let k = parent_cell f.state (drop e.start p) f.read f.reads in
      let start : e.start ≡ at + 4 * c = fixed_start parent_row p 4 (λ u s r e. (parent_cell u s r e).0) w c n in
      let value : get_or (map parent_item es) c 0 ≡ le 4 (drop at p) (4 * c) =
      there_map parent_item 0 es c n ∙ sym f.item ∙ k.1 ∙ le_drop 4 p e.start 0 ∙ ap (le 4 p) (omega (arith, start)) ∙ sym (le_drop 4 p at (4 * c)) in
      let room : 4 ≤ length (drop at p) - 4 * c = rw length-drop (omega (arith, start, k.2, length-drop e.start p)) in
      sym (is_whole 4 (drop at p) (4 * c) (get_or (map parent_item es) c 0) room (omega arith) value)
