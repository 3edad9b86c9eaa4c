-- An accepted section by its two cursors: where its payload lies, and what the payload's tables are.
use Prim.Native.Nat.{ℕ, zero, suc, ◌+◌, ◌-◌, ◌≤◌}
use mathlib.Core.Path.{◌≡◌, refl, ap, subst, ◌∙◌}
use mathlib.Core.List.{List, [], ◌∷◌, ◌++◌}
use native.Mathlib.Omega.{arith}
use lib.ListN.{length, take, drop, length-append, length-map}
use Rattle.local_format.specs.Out.{ok}
use Rattle.local_format.specs.Text.{bytes_at}
use Rattle.local_format.proofs.OutLaws.{ok_same, bind_ok, moved_ok}
use Rattle.derivation.specs.Rule.{Rule}
use Rattle.derivation.specs.Section as derivation
use Rattle.derivation.specs.Pass.{depth_of, depths_from, depths}
use Rattle.evr0_section.specs.Head.{Room}
use Rattle.evr0_section.specs.Proposition.{proposition_row}
use Rattle.evr0_section.specs.Proof.{proof_row}
use Rattle.evr0_section.specs.Section.{Section, frame_at, section_of, proof_item, tables_of, section_in, section_at}
use Rattle.evr0_section.proofs.RowsLaws.{trace, trace_length}
use Rattle.evr0_section.proofs.CheckedTables.{Steps, steps}
use Rattle.evr0_section.proofs.SectionSteps.{frame_place}

-- ---- The depths are as many as the proofs
depths_length : (cells_at : ℕ) (s : derivation.Section) (n i : ℕ) (ds : List ℕ) {es : List ℕ} → depths_from cells_at s n i ds ≡ ok es → length es
    ≡ length ds + n
unfolding depths_from
depths_length cells_at s zero i ds e = omega (arith, ap length (ok_same e))
depths_length cells_at s (suc n) i ds e =
    let d = bind_ok (depth_of cells_at s (derivation.proof_at s i) ds) _ e in
    omega (arith, depths_length cells_at s n (suc i) (ds ++ (d.0 ∷ [])) d.2, length-append ds (d.0 ∷ []))

-- ---- The section
module _ (rules : List Rule) (room : Room) (s : List ℕ) (cursor : ℕ) where
  -- the bytes between the frame and the cursor after the section
  abbrev pub payload_to : ℕ → List ℕ
  payload_to end = take (end - (cursor + 8)) (drop (cursor + 8) s)

  pub record Accepted (d : Section) : Type 0 where
    pub start : cursor + 8 ≤ d.cursor
    pub end : d.cursor ≤ length s
    pub read : tables_of rules room (payload_to d.cursor) ≡ ok d.tables
    pub tables : Steps rules room (payload_to d.cursor) d.tables
    pub propositions : length d.tables.propositions.entries ≡ d.tables.head.counts.propositions
    pub proofs : length d.tables.proofs.entries ≡ d.tables.head.counts.proofs
    pub depths : depths d.tables.witnesses.next (section_of d.tables) ≡ ok d.depths
    pub depth_count : length d.depths ≡ d.tables.head.counts.proofs

  section_in_lem : (p : List ℕ) (end : ℕ) {d : Section} → section_in rules room p end ≡ ok d
      → (tables_of rules room p ≡ ok d.tables) × (depths d.tables.witnesses.next (section_of d.tables) ≡ ok d.depths) × (end ≡ d.cursor)
  unfolding section_in
  section_in_lem p end {d} e =
      let t = bind_ok (tables_of rules room p) _ e in
      let ds = bind_ok (depths t.0.witnesses.next (section_of t.0)) _ t.2 in
      subst (λ (x : Section). (tables_of rules room p ≡ ok x.tables)
      × (depths x.tables.witnesses.next (section_of x.tables) ≡ ok x.depths) × (end ≡ x.cursor))
      (ok_same ds.2) (t.1, ds.1, refl)

  pub accepted : {d : Section} → section_at rules room s cursor ≡ ok d → Accepted d
  unfolding section_at depths section_of derivation.proof_total
  accepted {d} e =
      let f = bind_ok (frame_at s cursor) _ e in
      let place = frame_place s cursor f.1 in
      let p = bytes_at s f.0.start f.0.len in
      let g = section_in_lem p (f.0.start + f.0.len) (moved_ok f.0.start (section_in rules room p (f.0.start + f.0.len)) f.2) in
      let len : d.cursor - (cursor + 8) ≡ f.0.len = omega (arith, g.2, place.0) in
      let same : p ≡ payload_to d.cursor = rw (len, ← place.0) in
      let read : tables_of rules room (payload_to d.cursor) ≡ ok d.tables = rw same at g.0 in
      let t : Steps rules room (payload_to d.cursor) d.tables = steps rules room (payload_to d.cursor) d.tables read in
      let n : length d.tables.proofs.entries ≡ d.tables.head.counts.proofs =
      trace_length (proof_row rules d.tables.head.counts) (payload_to d.cursor)
      (trace (proof_row rules d.tables.head.counts) (payload_to d.cursor) _ _ _ d.tables.proofs t.proofs) in
      record {
        start = omega (arith, g.2, place.0);
        end = omega (arith, g.2, place.1);
        read = read;
        tables = t;
        propositions = trace_length proposition_row (payload_to d.cursor)
            (trace proposition_row (payload_to d.cursor) _ _ _ d.tables.propositions t.propositions);
        proofs = n;
        depths = g.1;
        depth_count = depths_length _ _ _ _ [] g.1 ∙ omega (arith, n, length-map d.tables.proofs.entries proof_item);
      }
