-- The four tables of an accepted section: each has as many entries as its count, and where an entry starts its record is read; witnesses and
-- parents, each of one size, are the payload's last bytes, so their starts follow from its length.
use Prim.Native.Nat.{ℕ, ◌+◌, ◌*◌, ◌<◌}
use mathlib.Core.Path.{◌≡◌, refl, sym, ap, ◌∙◌}
use mathlib.Core.List.{List}
use native.Mathlib.Omega.{arith}
use lib.ListN.{length}
use Rattle.local_format.specs.Out.{Out, ok}
use Rattle.local_format.specs.Number.{numbered}
use Rattle.local_format.proofs.OutLaws.{bind_ok, checked_ok, ok_same}
use Rattle.derivation.specs.Rule.{Rule}
use Rattle.evr0_section.specs.Rows.{Sized, Row, Entry}
use Rattle.evr0_section.specs.Head.{Counts, Room, span_width, witness_size}
use Rattle.evr0_section.specs.Proposition.{Proposition, Before, key_of, rises, proposition_of, proposition_row}
use Rattle.evr0_section.specs.Proof.{Settled, proof_of, proof_row}
use Rattle.evr0_section.specs.Witness.{WitnessRecord, witness_of, witness_row, parent_row}
use Rattle.evr0_section.specs.Section.{Section, section_at}
use Rattle.evr0_section.proofs.RowChecks.{proof_behind, witness_behind}
use Rattle.evr0_section.proofs.RecordLaws.{witness_lies, parent_lies}
use Rattle.evr0_section.proofs.RowsLaws.{Trace, trace, trace_length}
use Rattle.evr0_read.specs.Entry.{
  shown,
  shown_proposition,
  shown_settled,
  shown_proof,
  placed_proposition,
  placed_proof,
  placed_witness,
  placed_parent,
  record_at,
}
use Rattle.evr0_read.specs.Place.{witness_place, parent_place}
use Rattle.evr0_read.specs.Listing.{payload_of}
use Rattle.evr0_read.proofs.AcceptedLaws.{Accepted, accepted}
use Rattle.evr0_read.proofs.FoundLaws.{trace_found, fixed_size, fixed_start}
use Rattle.evr0_read.proofs.EntryLaws.{record_found}
use Rattle.evr0_read.proofs.PlaceLaws.{from_end, witness_there, parent_there}

module _ {A S X B : Type 0} (row : S → List ℕ → Out (Row A S)) (read : List ℕ → Out X) (place : ℕ → X → B) (f : ℕ → A → B)
    (behind : (u : S) (s : List ℕ) (r : Row A S) → row u s ≡ ok r → (x : X) × (read s ≡ ok x) × ((start : ℕ) → place start x ≡ f start r.item))
    (p : List ℕ) {n at end : ℕ} {u v : S} {es : List (Entry A)} (w : Trace row p n u at es v end) where
  record_read : (k : ℕ) (e : Entry A) → numbered k es ≡ ok e → record_at read place p e.start ≡ ok (shown f e)
  record_read k e h =
      let x = trace_found row p w k h in
      let b = behind x.state _ x.read x.reads in
      sym (record_found read place p e.start b.1 (sym (b.2 e.start ∙ ap (f e.start) x.item)))

proposition_behind : (before : Before) (s : List ℕ) (r : Row Proposition Before) → proposition_row before s ≡ ok r
    → (x : Sized Proposition) × (proposition_of s ≡ ok x) × ((start : ℕ) → placed_proposition start x ≡ shown_proposition start r.item)
unfolding proposition_row
proposition_behind before s r e =
    let x = bind_ok (proposition_of s) _ e in
    let c = checked_ok (rises before (key_of s x.0.item)) 16 0 _ x.2 in
    (x.0, x.1, λ start. ap (λ (y : Row Proposition Before). shown_proposition start y.item) (ok_same c.1))

witness_size_lem : (width : ℕ) (counts : Counts) (w : ℕ) (s : List ℕ) (r : Row WitnessRecord ℕ) → witness_row width counts w s ≡ ok r
    → r.size ≡ witness_size width
witness_size_lem width counts w s r e =
    let (x, read, item, size) = witness_behind width counts w s r e in
    size ∙ (witness_lies s 0 width x read).size

parent_size : (u : Unit {0}) (s : List ℕ) (r : Row ℕ (Unit {0})) → parent_row u s ≡ ok r → r.size ≡ 4
parent_size u s r e = (parent_lies s 0 u r e).1

module _ (rules : List Rule) (room : Room) (bytes : List ℕ) (cursor : ℕ) (d : Section) (decodes : section_at rules room bytes cursor ≡ ok d) where
  pub facts : Accepted rules room bytes cursor d
  facts = accepted rules room bytes cursor decodes

  abbrev p : List ℕ
  p = payload_of bytes cursor d

  abbrev counts : Counts
  counts = d.tables.head.counts

  abbrev width : ℕ
  width = span_width d.tables.head.schema

  pub proposition_read : (k : ℕ) (e : Entry Proposition) → numbered k d.tables.propositions.entries ≡ ok e
      → record_at proposition_of placed_proposition p e.start ≡ ok (shown shown_proposition e)
  proposition_read =
      record_read _ _ _ _ proposition_behind p
      (trace proposition_row p _ _ _ d.tables.propositions facts.tables.propositions)

  pub proof_read : (k : ℕ) (e : Entry Settled) → numbered k d.tables.proofs.entries ≡ ok e
      → record_at proof_of placed_proof p e.start ≡ ok (shown shown_settled e)
  proof_read =
      record_read _ _ _ _
      (λ u s r e. let b = proof_behind rules counts u s r e in (b.proof, b.read, λ start. ap (shown_proof start) (sym b.item))) p
      (trace (proof_row rules counts) p _ _ _ d.tables.proofs facts.tables.proofs)

  witnesses : Trace (witness_row width counts) p counts.witnesses 0 d.tables.proofs.next d.tables.witnesses.entries
      d.tables.witnesses.state d.tables.witnesses.next
  witnesses = trace (witness_row width counts) p _ _ _ d.tables.witnesses facts.tables.witnesses

  pub witness_read : (k : ℕ) (e : Entry WitnessRecord) → numbered k d.tables.witnesses.entries ≡ ok e
      → record_at (witness_of width) placed_witness p e.start ≡ ok e
  witness_read =
      record_read _ _ _ (λ start w. w)
      (λ u s r e. let (x, read, item, size) = witness_behind width counts u s r e in (x, read, λ start. sym item)) p witnesses

  parents : Trace parent_row p counts.parents tt d.tables.witnesses.next d.tables.parents.entries tt d.tables.parents.next
  parents = trace parent_row p _ _ _ d.tables.parents facts.tables.parents

  pub parent_read : (k : ℕ) (e : Entry ℕ) → numbered k d.tables.parents.entries ≡ ok e
      → record_at (parent_row tt) placed_parent p e.start ≡ ok e
  parent_read = record_read parent_row (parent_row tt) placed_parent (λ start c. c) (λ u s r e. (r, e, λ start. refl)) p parents

  pub witness_count : length d.tables.witnesses.entries ≡ counts.witnesses
  witness_count = trace_length (witness_row width counts) p witnesses

  pub parent_count : length d.tables.parents.entries ≡ counts.parents
  parent_count = trace_length parent_row p parents

  -- the parents take the last bytes of the payload
  pub parents_at_lem : d.tables.witnesses.next + 4 * counts.parents ≡ length p
  parents_at_lem = sym (fixed_size parent_row p 4 parent_size parents) ∙ facts.tables.whole

  -- and the witnesses those before them
  pub witnesses_at_lem : d.tables.proofs.next + witness_size width * counts.witnesses ≡ d.tables.witnesses.next
  witnesses_at_lem = sym (fixed_size (witness_row width counts) p (witness_size width) (witness_size_lem width counts) witnesses)

  pub parent_start : (k : ℕ) {e : Entry ℕ} → k < counts.parents → numbered k d.tables.parents.entries ≡ ok e
      → parent_place (length p) counts.parents k ≡ e.start
  parent_start k l h = sym (parent_there (length p) counts.parents k l (omega (arith, fixed_start parent_row p 4 parent_size parents k h, parents_at_lem)))

  pub witness_start : (k : ℕ) {e : Entry WitnessRecord} → k < counts.witnesses → numbered k d.tables.witnesses.entries ≡ ok e
      → witness_place (length p) width counts.witnesses counts.parents k ≡ e.start
  witness_start k l h =
      let e = fixed_start (witness_row width counts) p (witness_size width) (witness_size_lem width counts) witnesses k h in
      let b = from_end (witness_size width) counts.witnesses k d.tables.proofs.next l (sym witnesses_at_lem) in
      sym (witness_there (length p) width counts.witnesses counts.parents k l (omega (arith, e, b, parents_at_lem)))
