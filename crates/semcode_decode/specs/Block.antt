-- The tables at the front of a function's block. Document 01, "Function tables"; document 02, Slip 9.
use Rattle.std.specs.Prelude.{ℕ, ◌+◌, List, Bool, true, false, cond, ◌&&◌, length, leb}
use Rattle.local_format.specs.Refusal as kind
use Rattle.local_format.specs.Out.{Out, ok, check, check_as, based, ◌>>=◌, ◌>>◌}
use Rattle.local_format.specs.Field.{field}
use Rattle.local_format.specs.Text.{Span, string_at}
use Rattle.local_format.specs.Tag.{tag_at, dbg0, own0, sig0}
use Rattle.semcode_records.specs.Records.{Taken, taken, Table, no_records, records}
use Rattle.semcode_records.specs.Symbol.{Symbol, symbol_at}
use Rattle.semcode_records.specs.Path.{Path, path_at}

-- how many entries each lent table has
pub record Rooms : Type 0 where
  pub strings : ℕ
  pub symbols : ℕ
  pub paths : ℕ
  pub families : ℕ

-- 61: a lent table shorter than its count
abbrev pub room : ℕ → ℕ → ℕ → Out (Unit {0})
room count entries at = check (leb count entries) 61 at

-- ---- The strings

abbrev pub string_record : List ℕ → ℕ → Out (Taken Span)
string_record s at = do
  text ← string_at s at
  taken text text.next

unfoldable pub string_table : List ℕ → ℕ → ℕ → Out (Table Span)
string_table s entries at = do
  count ← field 30 2 s at
  check (leb count.value 256) 31 count.next
  room count.value entries count.next
  records (string_record s) count.value count.next

-- ---- The sections DBG0 and OWN0

unfoldable pub symbol_table : List ℕ → ℕ → ℕ → Out (Table Symbol)
symbol_table s entries at = do
  count ← field 35 2 s at
  check (leb count.value 8192) 36 count.next
  room count.value entries count.next
  records (symbol_at s) count.value count.next

unfoldable pub path_table : ℕ → List ℕ → ℕ → ℕ → Out (Table Path)
path_table revision s entries at = do
  count ← field 40 2 s at
  room count.value entries count.next
  records (path_at revision s) count.value count.next

-- whether the tag was found, and the records after it
pub record Section (A : Type 0) : Type 0 where
  pub found : Bool
  pub table : Table A

-- a tag that is absent or cut is no section
unfoldable pub section_at : {A : Type 0} → List ℕ → (ℕ → Out (Table A)) → List ℕ → ℕ → Out (Section A)
section_at tag table_at s at =
    cond (tag_at tag s at) (do
      table ← table_at (at + length tag)
      ok (record { found = true; table = table }))
    (ok (record { found = false; table = no_records at }))

-- ---- The section SIG0: the families of a function's parameters

-- a byte from 1 to 15
unfoldable pub family_at : List ℕ → ℕ → Out (Taken ℕ)
family_at s at = do
  family ← field 72 1 s at
  check (leb 1 family.value && leb family.value 15) 72 at
  taken family.value family.next

unfoldable pub family_table : List ℕ → ℕ → ℕ → Out (Table ℕ)
family_table s entries at = do
  count ← field 72 2 s at
  check (leb count.value 4096) 73 count.next
  room count.value entries count.next
  records (family_at s) count.value count.next

-- from revision 20 on it has to be there, behind OWN0, which has to be there too; below 20 there is none
unfoldable pub signature_at : ℕ → Bool → List ℕ → ℕ → ℕ → Out (Section ℕ)
signature_at revision ownership s entries at =
    cond (leb 20 revision) (do
      check_as kind.ownership ownership 71 at
      check (tag_at sig0 s at) 71 at
      table ← family_table s entries (at + length sig0)
      ok (record { found = true; table = table }))
    (ok (record { found = false; table = no_records at }))

-- ---- The block

pub record Block : Type 0 where
  pub strings : Table Span
  pub debug : Section Symbol
  pub ownership : Section Path
  pub signature : Section ℕ

-- with places in the block
unfoldable pub block_of : ℕ → Rooms → List ℕ → Out Block
block_of revision rooms s = do
  strings ← string_table s rooms.strings 0
  debug ← section_at dbg0 (symbol_table s rooms.symbols) s strings.end
  ownership ← section_at own0 (path_table revision s rooms.paths) s debug.table.end
  signature ← signature_at revision ownership.found s rooms.families ownership.table.end
  ok (record { strings = strings; debug = debug; ownership = ownership; signature = signature })

-- of a block at a base: a refusal's offset is base plus place, held
abbrev pub decode_block : ℕ → ℕ → Rooms → List ℕ → Out Block
decode_block base revision rooms s = based base (block_of revision rooms s)
