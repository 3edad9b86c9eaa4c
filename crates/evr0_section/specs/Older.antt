-- A reader of schema 1: the definitions of document 01 as they stand without document 02's Slip 12.
use Rattle.std.specs.Prelude.{ℕ, ◌+◌, ◌-◌, ◌≤◌, ◌≡◌, List, length, leb, eqb}
use Rattle.local_format.specs.Out.{Out, ok, check, moved, ◌>>=◌, ◌>>◌}
use Rattle.local_format.specs.Field.{le}
use Rattle.local_format.specs.Text.{bytes_at, section_field, text_at}
use Rattle.derivation.specs.Rule.{Rule}
use Rattle.derivation.specs.Pass.{depths}
use Rattle.evr0_section.specs.Head.{Head, Room, digest_at, counts_at, listed, count_limits, within_limits, sizes, has_room}
use Rattle.evr0_section.specs.Section.{Frame, Tables, Section, frame_at, tables_after, whole, section_of}

unfoldable pub older_head : List ℕ → Out Head
older_head p = do
  schema ← section_field 2 p 0
  check (eqb schema.value 1) 10 schema.next
  flags ← section_field 2 p schema.next
  check (eqb flags.value 0) 11 flags.next
  source_set ← digest_at p flags.next
  compiler_contract ← digest_at p source_set.next
  epoch ← section_field 2 p compiler_contract.next
  policy ← text_at p epoch.next
  issuer ← text_at p policy.next
  counted ← counts_at p issuer.next
  ok (record {
    schema = schema.value;
    source_set = source_set.bytes;
    compiler_contract = compiler_contract.bytes;
    epoch = epoch.value;
    policy_at = epoch.next;
    policy = policy;
    issuer_at = policy.next;
    issuer = issuer;
    counts = counted.counts;
    counts_at = issuer.next;
    next = counted.next;
  })

unfoldable pub older_counts : Room → List ℕ → Head → Out (Unit {0})
older_counts room p h = do
  within_limits (listed h.counts) count_limits h.counts_at
  check (leb (sizes h.counts 15 35 84 4) (length p - h.next)) 13 h.next
  check (leb (length p + sizes h.counts 40 64 84 4) 16777216) 14 h.next
  check (leb (length p + sizes h.counts 1 1 1 1) 8388608) 15 h.next
  check (has_room room h.counts) 61 h.next

unfoldable pub older_checked : Room → List ℕ → Out Head
older_checked room p = do
  h ← older_head p
  older_counts room p h
  ok h

module _ (rules : List Rule) (room : Room) where
  -- the ends of a span have 4 bytes
  unfoldable pub older_tables : List ℕ → Out Tables
  older_tables p = do
    head ← older_checked room p
    tables ← tables_after rules 4 head.counts p head.next
    ok (whole head tables)

  unfoldable pub older_in : List ℕ → ℕ → Out Section
  older_in p cursor = do
    t ← older_tables p
    ds ← depths t.witnesses.next (section_of t)
    ok (record { tables = t; depths = ds; cursor = cursor })

  unfoldable pub older_at : List ℕ → ℕ → Out Section
  older_at s cursor = do
    f ← frame_at s cursor
    moved f.start (older_in (bytes_at s f.start f.len) (f.start + f.len))

-- a section with a frame whose payload begins with this schema
pub record Carries (schema : ℕ) (s : List ℕ) (cursor : ℕ) : Type 0 where
  pub frame : Frame
  pub framed : frame_at s cursor ≡ ok frame
  pub there : 2 ≤ frame.len
  pub is : le 2 s frame.start ≡ schema
