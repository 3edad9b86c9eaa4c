-- An evidence section: the tables, or the first of the refusals 1 to 24 and 61; then the depths, or the first of 25 to 29.
use Rattle.std.specs.Prelude.{ℕ, ◌+◌, List, map, ◌&&◌, length, leb, eqb}
use Rattle.local_format.specs.Out.{Out, ok, check, moved, ◌>>=◌, ◌>>◌}
use Rattle.local_format.specs.Field.{field}
use Rattle.local_format.specs.Text.{bytes_at}
use Rattle.local_format.specs.Tag.{tag_at, evr0}
use Rattle.derivation.specs.Rule.{Rule, four_rules}
use Rattle.derivation.specs.Section as derivation
use Rattle.derivation.specs.Pass.{depths}
use Rattle.evr0_section.specs.Rows.{Entry, Rows, rows}
use Rattle.evr0_section.specs.Head.{Counts, Head, Room, span_width, checked_head}
use Rattle.evr0_section.specs.Proposition.{Proposition, Before, first, proposition_row}
use Rattle.evr0_section.specs.Proof.{Settled, Unowned, none_owned, proof_row}
use Rattle.evr0_section.specs.Witness.{WitnessRecord, witness_row, parent_row}

-- ---- From the tag to the payload

-- where the payload starts in the file, and how long it is
pub record Frame : Type 0 where
  pub start : ℕ
  pub len : ℕ

unfoldable pub frame_at : List ℕ → ℕ → Out Frame
frame_at s cursor = do
  check (tag_at evr0 s cursor) 1 cursor
  size ← field 2 4 s (cursor + 4)
  check (leb 1 size.value && leb size.value 4194304) 3 (cursor + 4)
  payload ← field 4 size.value s size.next
  ok (record { start = size.next; len = size.value })

-- ---- The four tables

-- the witnesses and the parents
pub record Rest : Type 0 where
  pub witnesses : Rows WitnessRecord ℕ
  pub parents : Rows ℕ (Unit {0})

-- from a place on, up to the payload's end, with spans whose ends have this width
unfoldable pub rest_after : ℕ → Counts → List ℕ → ℕ → Out Rest
rest_after width counts p at = do
  witnesses ← rows (witness_row width counts) counts.witnesses 0 p at
  parents ← rows parent_row counts.parents tt p witnesses.next
  check (eqb parents.next (length p)) 24 parents.next
  ok (record { witnesses = witnesses; parents = parents })

pub record Four : Type 0 where
  pub propositions : Rows Proposition Before
  pub proofs : Rows Settled Unowned
  pub rest : Rest

-- the four tables, from the place after the head
unfoldable pub tables_after : List Rule → ℕ → Counts → List ℕ → ℕ → Out Four
tables_after rules width counts p at = do
  propositions ← rows proposition_row counts.propositions first p at
  proofs ← rows (proof_row rules counts) counts.proofs none_owned p propositions.next
  check (eqb proofs.state.witness counts.witnesses && eqb proofs.state.parent counts.parents) 22 proofs.next
  rest ← rest_after width counts p proofs.next
  ok (record { propositions = propositions; proofs = proofs; rest = rest })

pub record Tables : Type 0 where
  pub head : Head
  pub propositions : Rows Proposition Before
  pub proofs : Rows Settled Unowned
  pub witnesses : Rows WitnessRecord ℕ
  pub parents : Rows ℕ (Unit {0})

abbrev pub whole : Head → Four → Tables
whole h f =
    record { head = h; propositions = f.propositions; proofs = f.proofs; witnesses = f.rest.witnesses; parents = f.rest.parents }

-- what the derivations are about: the tables without the places and the texts
abbrev pub proof_item : Entry Settled → derivation.Proof
proof_item e =
    record {
      number = e.item.proof.number;
      proposition = e.item.proof.proposition;
      rule = e.item.rule;
      authority = e.item.proof.authority;
      first_witness = e.item.proof.first_witness;
      witness_count = e.item.proof.witness_count;
      first_parent = e.item.proof.first_parent;
      parent_count = e.item.proof.parent_count;
      operation = e.item.proof.operation;
    }

abbrev pub witness_item : Entry WitnessRecord → derivation.Witness
witness_item e =
    record {
      number = e.item.number;
      proposition = e.item.proposition;
      polarity = e.item.polarity;
      span_start = e.item.span_start;
      span_end = e.item.span_end;
    }

abbrev pub parent_item : Entry ℕ → ℕ
parent_item e = e.item

unfoldable pub section_of : Tables → derivation.Section
section_of t =
    record {
      propositions = t.head.counts.propositions;
      proofs = map proof_item t.proofs.entries;
      witnesses = map witness_item t.witnesses.entries;
      parents = map parent_item t.parents.entries;
    }

pub record Section : Type 0 where
  pub tables : Tables
  pub depths : List ℕ
  pub cursor : ℕ

module _ (rules : List Rule) (room : Room) where
  -- the tables of a payload
  unfoldable pub tables_of : List ℕ → Out Tables
  tables_of p = do
    head ← checked_head room p
    tables ← tables_after rules (span_width head.schema) head.counts p head.next
    ok (whole head tables)

  -- the tables of the section at a cursor. They *all read and pass their own checks*, with no byte left over, where this is no refusal
  unfoldable pub tables_at : List ℕ → ℕ → Out Tables
  tables_at s cursor = do
    f ← frame_at s cursor
    moved f.start (tables_of (bytes_at s f.start f.len))

  -- ---- The section

  -- the section of a payload, after which the cursor stands at `cursor`
  unfoldable pub section_in : List ℕ → ℕ → Out Section
  section_in p cursor = do
    t ← tables_of p
    ds ← depths t.witnesses.next (section_of t)
    ok (record { tables = t; depths = ds; cursor = cursor })

  unfoldable pub section_at : List ℕ → ℕ → Out Section
  section_at s cursor = do
    f ← frame_at s cursor
    moved f.start (section_in (bytes_at s f.start f.len) (f.start + f.len))

-- by the four rules
unfoldable pub decode_section : Room → List ℕ → ℕ → Out Section
decode_section room s cursor = section_at four_rules room s cursor
