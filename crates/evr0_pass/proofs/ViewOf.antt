-- Tables that were read are those that the payload's bytes hold at their places: row by row, along the trace of each table.
use Prim.Native.Nat.{ℕ, zero, suc, ◌+◌, ◌*◌, ◌<◌}
use mathlib.Core.Path.{◌≡◌, refl, sym, ap, ap₂, ◌∙◌}
use mathlib.Core.List.{List, ◌∷◌, map}
use native.Mathlib.Nat.{zero-add}
use native.Mathlib.Omega.{arith}
use lib.ListN.{length, get_or, drop, length-map}
use lib.Seq.{drop-drop, get_or-take}
use Rattle.local_format.specs.Out.{Out, ok}
use Rattle.local_format.specs.Field.{le}
use Rattle.local_format.specs.Text.{bytes_at}
use Rattle.lent_table.specs.Lent.{Front}
use Rattle.derivation.specs.Rule.{Rule, Named, known, rule_named}
use Rattle.evr0_section.specs.Rows.{Sized, Row, Entry}
use Rattle.evr0_section.specs.Head.{Counts, Room, span_width, witness_size}
use Rattle.evr0_section.specs.Proof.{ProofRecord, Settled, Unowned, proof_row}
use Rattle.evr0_section.specs.Witness.{WitnessRecord, witness_row, parent_row}
use Rattle.evr0_section.specs.Section.{Tables, proof_item, witness_item, parent_item, section_of, tables_of}
use Rattle.evr0_section.proofs.RowsLaws.{entry, Trace, none, more, trace, trace_length}
use Rattle.evr0_section.proofs.RowChecks.{GoodProof, proof_known, proof_behind, witness_behind}
use Rattle.evr0_section.proofs.RecordLaws.{ProofLies, proof_lies, witness_lies, parent_lies}
use Rattle.evr0_section.proofs.CheckedTables.{Steps, steps}
use Rattle.evr0_section.specs.Rows.{starts_of}
use Rattle.evr0_pass.specs.View.{Layout, places, name_at, rule_in, rule_at, proof_view, witness_view, view, ProofThere, TablesThere}
use Rattle.evr0_pass.specs.View.{PolaritiesThere}
use Rattle.evr0_pass.proofs.ViewLaws.{get_or_map_in, width_in_lem}

-- ---- Any table

module _ {A S : Type 0} (row : S → List ℕ → Out (Row A S)) (p : List ℕ) where
  -- records that are what stands at their starts
  by_starts : {B : Type 0} (item : Entry A → B) (here : ℕ → B) → ((u : S) (at : ℕ) (r : Row A S) → row u (drop at p) ≡ ok r → item (entry at r) ≡ here at)
      → {n at end : ℕ} {u v : S} {es : List (Entry A)} → Trace row p n u at es v end → map item es ≡ map here (starts_of es)
  by_starts item here each none = refl
  by_starts item here each (more {at = at} {state = u} r e w) = ap₂ ◌∷◌ (each u at r e) (by_starts item here each w)

  -- records of one size start at places that far apart
  same_size : (size : ℕ) → ((u : S) (at : ℕ) (r : Row A S) → row u (drop at p) ≡ ok r → r.size ≡ size)
      → {n at end : ℕ} {u v : S} {es : List (Entry A)} → Trace row p n u at es v end → (starts_of es ≡ places size n at) × (end ≡ at + size * n)
  unfolding places
  same_size size each none = (refl, omega arith)
  same_size size each (more {n = n} {at = at} {end = end} {state = u} {es = es} r e w) =
      let q = each u at r e in
      let rest = same_size size each w in
      (ap (λ (l : List ℕ). at ∷ l) (rest.0 ∙ ap (λ (k : ℕ). places size n (at + k)) q), omega (arith, rest.1))

-- ---- A proof

module _ (rules : List Rule) (p : List ℕ) (l : Layout) (u : Unowned) (at : ℕ) (r : Row Settled Unowned)
    (e : proof_row rules l.counts u (drop at p) ≡ ok r) where
  x : Sized ProofRecord
  x = (proof_behind rules l.counts u (drop at p) r e).proof

  lies : ProofLies p at x
  unfolding x
  lies = proof_lies p at x (proof_behind rules l.counts u (drop at p) r e).read

  name_is : rule_named rules (name_at p at) ≡ known r.item.rule
  unfolding x
  name_is =
      let name : bytes_at (drop at p) x.item.rule.start x.item.rule.len ≡ name_at p at = rw (lies.start, lies.len, drop-drop 10 at p) in
      rw (← name) (proof_behind rules l.counts u (drop at p) r e).named

  proof_view_lem : proof_item (entry at r) ≡ proof_view rules p at
  unfolding proof_view x
  proof_view_lem =
      rw (
        name_is,
        (proof_behind rules l.counts u (drop at p) r e).item,
        lies.number,
        lies.proposition,
        lies.authority,
        lies.first_witness,
        lies.witness_count,
        lies.first_parent,
        lies.parent_count,
        lies.operation,
        lies.len,
      )

  good : GoodProof rules l.counts u (proof_view rules p at)
  good = rw (← proof_view_lem) ((proof_known rules l.counts u (drop at p) r e).good at)

  proof_there : ProofThere p l at u.proof
  unfolding proof_view
  proof_there =
      record {
        inside = omega (arith, lies.inside, lies.len);
        number = good.number;
        witnesses = omega (arith, good.first_witness, good.witnesses_end);
        parents = omega (arith, good.first_parent, good.parents_end);
      }

  next_proof : r.state.proof ≡ suc u.proof
  next_proof = ap (λ (v : Unowned). v.proof) ((proof_known rules l.counts u (drop at p) r e).state at)

-- the i-th proof of a table whose first has the number of the state
proofs_there : (rules : List Rule) (p : List ℕ) (l : Layout) {n at end : ℕ} {u v : Unowned} {es : List (Entry Settled)}
    → Trace (proof_row rules l.counts) p n u at es v end → (i : ℕ) → i < length (starts_of es)
    → ProofThere p l (get_or (starts_of es) i 0) (u.proof + i)
proofs_there rules p l none i h = absurd (omega arith)
proofs_there rules p l (more {at = at} {state = u} r e w) zero h =
    let q : u.proof + 0 ≡ u.proof = omega arith in
    rw q (proof_there rules p l u at r e)
proofs_there rules p l (more {at = at} {state = u} r e w) (suc i) h =
    let q : r.state.proof + i ≡ u.proof + suc i = omega (arith, next_proof rules p l u at r e) in
    rw q at (proofs_there rules p l w i (omega arith))

-- ---- A witness and a parent cell

module _ (p : List ℕ) (width : ℕ) (counts : Counts) where
  witness_view_lem : (w at : ℕ) (r : Row WitnessRecord ℕ) → witness_row width counts w (drop at p) ≡ ok r → witness_item (entry at r) ≡ witness_view width p at
  unfolding witness_view
  witness_view_lem w at r e =
      let (x, f, i, z) = witness_behind width counts w (drop at p) r e in
      let y = witness_lies p at width x f in
      rw (i, y.number, y.proposition, y.polarity, y.span_start, y.span_end)

  witness_size_lem : (w at : ℕ) (r : Row WitnessRecord ℕ) → witness_row width counts w (drop at p) ≡ ok r → r.size ≡ witness_size width
  witness_size_lem w at r e =
      let (x, f, i, z) = witness_behind width counts w (drop at p) r e in
      z ∙ (witness_lies p at width x f).size

-- ---- The tables of a payload

abbrev pub layout_of : Tables → Layout
layout_of t =
    record {
      counts = t.head.counts;
      witness_size = witness_size (span_width t.head.schema);
      witnesses_at = t.proofs.next;
      parents_at = t.witnesses.next;
    }

module _ (rules : List Rule) (room : Room) (p : List ℕ) (t : Tables) (read : tables_of rules room p ≡ ok t) where
  read_steps : Steps rules room p t
  read_steps = steps rules room p t read

  proofs_read : Trace (proof_row rules t.head.counts) p t.head.counts.proofs (record { proof = 0; witness = 0; parent = 0 })
      t.propositions.next t.proofs.entries t.proofs.state t.proofs.next
  proofs_read = trace (proof_row rules t.head.counts) p _ _ _ t.proofs read_steps.proofs

  abbrev width : ℕ
  width = span_width t.head.schema

  witnesses_read : Trace (witness_row width t.head.counts) p t.head.counts.witnesses 0 t.proofs.next t.witnesses.entries
      t.witnesses.state t.witnesses.next
  witnesses_read = trace (witness_row width t.head.counts) p _ _ _ t.witnesses read_steps.witnesses

  parents_read : Trace parent_row p t.head.counts.parents tt t.witnesses.next t.parents.entries t.parents.state t.parents.next
  parents_read = trace parent_row p _ _ _ t.parents read_steps.parents

  -- a start for each proof
  pub starts_total : length (starts_of t.proofs.entries) ≡ t.head.counts.proofs
  starts_total = length-map t.proofs.entries _ ∙ trace_length (proof_row rules t.head.counts) p proofs_read

  -- the tables that were read are those that the bytes hold
  pub section_view : section_of t ≡ view rules p (starts_of t.proofs.entries) (layout_of t)
  unfolding section_of view
  section_view =
      let ws = same_size (witness_row width t.head.counts) p (witness_size width) (witness_size_lem p width t.head.counts) witnesses_read in
      let cs = same_size parent_row p 4 (λ u at r e. (parent_lies p at u r e).1) parents_read in
      rw (
        by_starts (proof_row rules t.head.counts) p proof_item (proof_view rules p) (proof_view_lem rules p (layout_of t)) proofs_read,
        by_starts (witness_row width t.head.counts) p witness_item (witness_view width p) (witness_view_lem p width t.head.counts) witnesses_read,
        by_starts parent_row p parent_item (le 4 p) (λ u at r e. (parent_lies p at u r e).0) parents_read,
        ws.0,
        cs.0,
        width_in_lem width,
      )

  -- and they are there, as the last pass asks
  pub tables_there : TablesThere p (starts_of t.proofs.entries) (layout_of t)
  tables_there =
      let ws = same_size (witness_row width t.head.counts) p (witness_size width) (witness_size_lem p width t.head.counts) witnesses_read in
      let cs = same_size parent_row p 4 (λ u at r e. (parent_lies p at u r e).1) parents_read in
      record {
        proofs = λ i h. rw (zero-add i) at (proofs_there rules p (layout_of t) proofs_read i h);
        witnesses = record { size = omega arith; inside = omega (arith, ws.1, cs.1, read_steps.whole) };
        parents = omega (arith, cs.1, read_steps.whole);
      }

  -- the polarities that their rules ask, at the front of a table
  pub polarities_there : (table : List ℕ) → Front (map (λ e. e.item.rule.polarity) t.proofs.entries) table
      → PolaritiesThere rules p (starts_of t.proofs.entries) table
  polarities_there table h i k =
      let es = t.proofs.entries in
      let asked = by_starts (proof_row rules t.head.counts) p (λ e. e.item.rule.polarity) (λ start. (rule_at rules p start).polarity)
      (λ u at r e. sym (ap (λ (n : Named). (rule_in n).polarity) (name_is rules p (layout_of t) u at r e))) proofs_read in
      let total : length (map (λ e. e.item.rule.polarity) es) ≡ length (starts_of es) =
      length-map es (λ e. e.item.rule.polarity) ∙ sym (length-map es (λ e. e.start)) in
      sym (get_or-take (length (starts_of es)) table i 0 k)
      ∙ ap (λ (l : List ℕ). get_or l i 0) (rw total at h ∙ asked)
      ∙ get_or_map_in (λ start. (rule_at rules p start).polarity) (starts_of es) i 0 0 k
