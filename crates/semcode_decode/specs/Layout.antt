-- What the decoder answers of a block, and what it leaves in the lent tables.
use Rattle.std.specs.Prelude.{◌≡◌, ℕ, List, [], map, Bool, length}
use Rattle.local_format.specs.Out.{Out, ok, refused, ◌>>=◌}
use Rattle.local_format.specs.Text.{Span}
use Rattle.lent_table.specs.Lent.{lent}
use Rattle.semcode_records.specs.Records.{Table}
use Rattle.semcode_records.specs.Path.{Path}
use Rattle.semcode_decode.specs.Block.{Rooms, Section, Block, decode_block}

-- the result: four counts, whether each tag was found, and places in the block
pub record Layout : Type 0 where
  pub strings : ℕ
  pub strings_end : ℕ
  pub debug : Bool
  pub symbols : ℕ
  pub symbols_start : ℕ
  pub ownership : Bool
  pub paths : ℕ
  pub signature : Bool
  pub families : ℕ
  pub families_start : ℕ
  pub instructions : ℕ

abbrev pub layout_of : Block → Layout
layout_of b =
    record {
      strings = length b.strings.entries;
      strings_end = b.strings.end;
      debug = b.debug.found;
      symbols = length b.debug.table.entries;
      symbols_start = b.debug.table.start;
      ownership = b.ownership.found;
      paths = length b.ownership.table.entries;
      signature = b.signature.found;
      families = length b.signature.table.entries;
      families_start = b.signature.table.start;
      instructions = b.signature.table.end;
    }

abbrev pub layout : Out Block → Out Layout
layout x = do
  b ← x
  ok (layout_of b)

-- ---- One string

-- where its bytes start, how many they are, and the place after them
pub record Place : Type 0 where
  pub start : ℕ
  pub len : ℕ
  pub next : ℕ

abbrev pub placed : Out Span → Out Place
placed x = do
  text ← x
  ok (record { start = text.start; len = text.len; next = text.next })

-- ---- One table

-- where a table's records start, how many they are, and the place after them
pub record Extent : Type 0 where
  pub start : ℕ
  pub count : ℕ
  pub end : ℕ

abbrev pub extent_of : {A : Type 0} → Table A → Extent
extent_of t = record { start = t.start; count = length t.entries; end = t.end }

abbrev pub extent : {A : Type 0} → Out (Table A) → Out Extent
extent x = do
  t ← x
  ok (extent_of t)

-- the same with whether the tag was found
pub record Tagged : Type 0 where
  pub found : Bool
  pub extent : Extent

abbrev pub tagged : {A : Type 0} → Out (Section A) → Out Tagged
tagged x = do
  s ← x
  ok (record { found = s.found; extent = extent_of s.table })

-- ---- Starts

abbrev pub starts_of : {A : Type 0} → Table A → List ℕ
starts_of t = map (λ e. e.start) t.entries

-- a refusal has none
abbrev pub starts : {A : Type 0} → Out (Table A) → List ℕ
starts (ok t) = starts_of t
starts (refused r) = []

-- the table of a section, and a block's tables of strings and of paths
abbrev pub table_in : {A : Type 0} → Out (Section A) → Out (Table A)
table_in x = do
  s ← x
  ok s.table

abbrev pub strings_in : Out Block → Out (Table Span)
strings_in x = do
  b ← x
  ok b.strings

abbrev pub paths_in : Out Block → Out (Table Path)
paths_in x = do
  b ← x
  ok b.ownership.table

abbrev pub string_starts : Out Block → List ℕ
string_starts x = starts (strings_in x)

abbrev pub path_starts : Out Block → List ℕ
path_starts x = starts (paths_in x)

-- the families themselves
abbrev pub families_of : Block → List ℕ
families_of b = map (λ e. e.value) b.signature.table.entries

abbrev pub block_families : Out Block → List ℕ
block_families (ok b) = families_of b
block_families (refused r) = []

-- ---- The lent tables

-- the tables, as brought or as left
pub record Lent : Type 0 where
  pub strings : List ℕ
  pub paths : List ℕ
  pub families : List ℕ

abbrev pub tables : List ℕ → List ℕ → List ℕ → Lent
tables strings paths families = record { strings = strings; paths = paths; families = families }

abbrev pub rooms : ℕ → ℕ → ℕ → ℕ → Rooms
rooms strings symbols paths families = record { strings = strings; symbols = symbols; paths = paths; families = families }

-- how many entries they have, beside a lent list of so many symbols
abbrev pub rooms_of : Lent → ℕ → Rooms
rooms_of brought symbols =
    rooms (length brought.strings) symbols (length brought.paths) (length brought.families)

-- what a call leaves: the answer that is due, and in each table the block's starts or families and then zeros; a refused block has none
pub record Leaves {A : Type 0} (block : Out Block) (before after : Lent) (told due : A) : Type 0 where
  pub answer : told ≡ due
  pub strings : after.strings ≡ lent (length before.strings) (string_starts block)
  pub paths : after.paths ≡ lent (length before.paths) (path_starts block)
  pub families : after.families ≡ lent (length before.families) (block_families block)

-- a block at a base, with a lent list of so many symbols, is decoded, and this is told of it
abbrev pub Decodes : {A : Type 0} → (Out Block → A) → ℕ → ℕ → ℕ → List ℕ → Lent → Lent → A → Type 0
Decodes told base revision symbols code before after answer =
    let block = decode_block base revision (rooms_of before symbols) code in
    Leaves block before after answer (told block)
