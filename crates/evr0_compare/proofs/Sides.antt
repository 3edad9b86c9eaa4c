-- The propositions of a section that was decoded, by their starts in its payload: each lies there, and its key is what its bytes say. From
-- the steps of a record's reading, along the trace of the table.
use Prim.Native.Nat.{ℕ, zero, suc, ◌+◌, ◌-◌, ◌≤◌, ◌<◌}
use mathlib.Core.Path.{◌≡◌, sym, ap, ◌∙◌}
use mathlib.Core.List.{List}
use native.Mathlib.Omega.{arith}
use lib.Dec.{leb, eqb}
use lib.ListN.{length, get_or, take, drop, length-map, length-take, length-drop}
use lib.Seq.{drop-drop}
use borrow.Author.Tests.{leb-true}
use Rattle.local_format.specs.Out.{ok}
use Rattle.local_format.specs.Field.{le}
use Rattle.local_format.specs.Text.{bytes_at, text_at}
use Rattle.local_format.proofs.FieldLaws.{le_drop}
use Rattle.local_format.proofs.OutLaws.{bind_ok, then_ok, checked_ok, moved_ok, ok_same}
use Rattle.local_format.proofs.Each.{Each, each_ok, always, steps}
use Rattle.derivation.specs.Rule.{Rule}
use Rattle.derivation.specs.Section as derivation
use Rattle.derivation.specs.Friendly as friendly
use Rattle.derivation.specs.Pass.{depths}
use Rattle.evr0_section.specs.Rows.{Sized, Row, Entry, starts_of}
use Rattle.evr0_section.specs.Head.{Room, listed, count_limits, within_limits, check_counts}
use Rattle.evr0_section.specs.Proposition.{Proposition, Before, first, key_of, rises, proposition_of, proposition_row}
use Rattle.evr0_section.specs.Section.{frame_at, Tables, Section, section_of, tables_of, section_in, section_at}
use Rattle.evr0_section.proofs.RowsLaws.{Trace, none, more, trace, trace_length}
use Rattle.evr0_section.proofs.CheckedTables as tables
use Rattle.rule_table.specs.ByTable.{Given, rules_given, decode_by}
use Rattle.evr0_compare.specs.Compare.{Standing, standings_from, standings, Input, decoded, payload}
use Rattle.evr0_compare.specs.Merge.{kind_end, key_at, SideThere, no_standing, Views}
use Rattle.evr0_compare.proofs.CompareSections.{frame_payload, section_tables, standings_length, head_source}

-- ---- A proposition at the front of s
abbrev form : List ℕ → ℕ → Proposition
form s chars =
    let n : ℕ = 2 + le 2 s 0 in
    record { kind = record { start = 2; len = le 2 s 0; chars = chars; next = n }; owner = le 4 s n; scope = le 4 s (n + 4); type = le 4 s (n + 4 + 4) }

record Reads (s : List ℕ) (x : Sized Proposition) : Type 0 where
  is : record { item = form s x.item.kind.chars; size = 2 + le 2 s 0 + 4 + 4 + 4 } ≡ x
  inside : 2 + le 2 s 0 + 4 + 4 + 4 ≤ length s

reads : (s : List ℕ) (x : Sized Proposition) → record { item = form s x.item.kind.chars; size = 2 + le 2 s 0 + 4 + 4 + 4 } ≡ x
    → 2 + le 2 s 0 + 4 + 4 + 4 ≤ length s → Reads s x
reads s x e h = record { is = e; inside = h }

proposition_reads : (s : List ℕ) → Each (Reads s) always (proposition_of s)
unfolding proposition_of text_at
proposition_reads s = search (steps, reads) depth 60 fits 4000

-- ---- In the payload
module _ (p : List ℕ) (at : ℕ) where
  lies : (width k place : ℕ) → at + k ≡ place → le width (drop at p) k ≡ le width p place
  lies width k place e = le_drop width p at k ∙ ap (le width p) e

  -- the key and the place of a row that was read
  row_there : (before : Before) (r : Row Proposition Before) → proposition_row before (drop at p) ≡ ok r
      → (key_of (drop at p) r.item ≡ key_at p at) × (kind_end p at + 12 ≤ length p)
  unfolding proposition_row key_at
  row_there before r e =
      let (x, read, e1) = bind_ok (proposition_of (drop at p)) _ e in
      let (risen, e2) = checked_ok (rises before (key_of (drop at p) x.item)) 16 0 _ e1 in
      let h : Reads (drop at p) x = each_ok (proposition_reads (drop at p)) read in
      let n : le 2 (drop at p) 0 ≡ le 2 p at = lies 2 0 at (omega arith) in
      let key : key_of (drop at p) x.item ≡ key_at p at =
      rw (
        ← h.is,
        lies 4 (2 + le 2 (drop at p) 0) (kind_end p at) (omega (arith, n)),
        lies 4 (2 + le 2 (drop at p) 0 + 4) (kind_end p at + 4) (omega (arith, n)),
        lies 4 (2 + le 2 (drop at p) 0 + 4 + 4) (kind_end p at + 8) (omega (arith, n)),
        n,
        drop-drop 2 at p,
      ) in
      (ap (λ (r : Row Proposition Before). key_of (drop at p) r.item) (sym (ok_same e2)) ∙ key, omega (arith, h.inside, n, length-drop at p))

-- ---- The table
record There (p : List ℕ) (s : derivation.Section) (number start : ℕ) (x : Standing) : Type 0 where
  is : x ≡ record { key = key_at p start; authorised = friendly.authorised s number }
  inside : kind_end p start + 12 ≤ length p

standing_there : {p : List ℕ} {n at end : ℕ} {u v : Before} {es : List (Entry Proposition)} (s : derivation.Section) (number : ℕ)
    → Trace proposition_row p n u at es v end → (i : ℕ) → i < length es
    → There p s (number + i) (get_or (starts_of es) i 0) (get_or (standings_from p s number es) i no_standing)
unfolding standings_from
standing_there s number none i h = absurd (omega arith)
standing_there {p = p} s number (more {at = at} {state = u} r e w) zero h =
    let (key, inside) = row_there p at u r e in
    let n : number + 0 ≡ number = omega arith in
    record { is = rw (key, n); inside = inside }
standing_there {p = p} s number (more {at = at} {state = u} r e w) (suc i) h =
    let n : suc number + i ≡ number + suc i = omega arith in
    rw n at (standing_there s (suc number) w i (omega arith))

-- ---- A section that was decoded

-- 12: at most 65,536 propositions
few_propositions : (rules : List Rule) (room : Room) (p : List ℕ) (t : Tables) → tables_of rules room p ≡ ok t → t.head.counts.propositions ≤ 65536
unfolding check_counts within_limits
few_propositions rules room p t e =
    let (u, limits, rest) = then_ok (within_limits (listed t.head.counts) count_limits t.head.counts_at) _ (tables.steps rules room p t e).counts in
    let (fits, others) = checked_ok (leb t.head.counts.propositions 65536) 12 t.head.counts_at _ limits in
    leb-true t.head.counts.propositions 65536 fits

section_ends : (given : Given) (x : Input) (d : Section) → decoded given x ≡ ok d → d.cursor ≡ x.cursor + 8 + le 4 x.bytes (x.cursor + 4)
unfolding decode_by section_at section_in
section_ends given x d e =
    let (rules, known, read) = bind_ok (rules_given given) _ e in
    let (f, framed, e1) = bind_ok (frame_at x.bytes x.cursor) _ read in
    let (t, tabled, e2) = bind_ok (tables_of rules x.room (bytes_at x.bytes f.start f.len)) _ (moved_ok f.start _ e1) in
    let (ds, derived, e3) = bind_ok (depths t.witnesses.next (section_of t)) _ e2 in
    let (start, len) = frame_payload x.bytes x.cursor f framed in
    omega (arith, ap (λ (d : Section). d.cursor) (ok_same e3))

module _ (given : Given) (x : Input) (d : Section) (e : decoded given x ≡ ok d) where
  abbrev starts : List ℕ
  starts = starts_of d.tables.propositions.entries

  abbrev rules : List Rule
  rules = (section_tables given x d e).0

  read : tables_of rules x.room (payload x) ≡ ok d.tables
  read = (section_tables given x d e).2

  propositions_read : Trace proposition_row (payload x) d.tables.head.counts.propositions first d.tables.head.next
      d.tables.propositions.entries d.tables.propositions.state d.tables.propositions.next
  propositions_read = trace proposition_row (payload x) _ _ _ d.tables.propositions (tables.steps rules x.room (payload x) d.tables read).propositions

  -- a start for each proposition
  pub starts_count : length starts ≡ d.tables.head.counts.propositions
  starts_count = length-map d.tables.propositions.entries _ ∙ trace_length proposition_row (payload x) propositions_read

  -- the payload by the cursor behind the section
  pub payload_to_lem : payload x ≡ take (d.cursor - (x.cursor + 8)) (drop (x.cursor + 8) x.bytes)
  payload_to_lem =
      let n : d.cursor - (x.cursor + 8) ≡ le 4 x.bytes (x.cursor + 4) = omega (arith, section_ends given x d e) in
      rw n

  -- its source set lies in the file
  pub source_inside : x.cursor + 44 ≤ length x.bytes
  source_inside =
      let (l, bytes) = head_source (payload x) d.tables.head (tables.steps rules x.room (payload x) d.tables read).head in
      omega (arith, l, length-take (le 4 x.bytes (x.cursor + 4)) (drop (x.cursor + 8) x.bytes), length-drop (x.cursor + 8) x.bytes)

  module _ (flags : List ℕ) where
    pub side : length starts ≤ length flags → SideThere (payload x) starts flags
    side long =
        record {
          inside = λ i h. (standing_there (section_of d.tables) 0 propositions_read i (omega (
            arith,
            length-map d.tables.propositions.entries
                (λ (e : Entry Proposition). e.start),
          ))).inside;
          flagged = long;
          few = omega (arith, starts_count, few_propositions rules x.room (payload x) d.tables read);
        }

    pub views : ((i : ℕ) → i < length starts → eqb (get_or flags i 0) 1 ≡ friendly.authorised (section_of d.tables) i)
        → Views (payload x) starts flags (standings (payload x) d.tables)
    views flagged =
        record {
          count = standings_length (payload x) (section_of d.tables) 0 d.tables.propositions.entries
              ∙ sym (length-map d.tables.propositions.entries _);
          each = λ i h.
              let n : 0 + i ≡ i = omega arith in
              (standing_there (section_of d.tables) 0 propositions_read i (omega (
                arith,
                length-map d.tables.propositions.entries
                    (λ (e : Entry Proposition). e.start),
              ))).is ∙ rw (flagged i h, n);
        }
