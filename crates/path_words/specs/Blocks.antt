-- The words of a block: of each string, symbol and path, in the order in which they stand there.
use Rattle.std.specs.Prelude.{ℕ, ◌≡◌, ◌≤◌, cond, List, [], ◌∷◌, ◌++◌, leb, length}
use Rattle.local_format.specs.Out.{Out, ok, refused, check, based, ◌>>=◌, ◌>>◌}
use Rattle.lent_table.specs.Lent.{lent, laid}
use Rattle.semcode_records.specs.Records.{Taken, Entry}
use Rattle.semcode_records.specs.Symbol.{Symbol, symbol_at}
use Rattle.semcode_records.specs.Component.{Component}
use Rattle.semcode_records.specs.Path.{Path}
use Rattle.semcode_records.specs.Numbers.{numbered}
use Rattle.semcode_decode.specs.Block.{Rooms, string_record, Block, block_of}
use Rattle.semcode_decode.specs.Layout.{Layout, layout_of, rooms}
use Rattle.record_words.specs.Fields.{text_fields}
use Rattle.path_words.specs.Words.{component_word}

-- ---- The words of a record

-- its place, its line, its column
abbrev pub symbol_fields : Symbol → List ℕ
symbol_fields d = d.pc ∷ d.line ∷ d.column ∷ []

-- the words of each record of a table, one after the other
unfoldable pub entry_words : {A : Type 0} → (A → List ℕ) → List (Entry A) → List ℕ
entry_words fields [] = []
entry_words fields (e ∷ es) = fields e.value ++ entry_words fields es

abbrev pub component_fields : Component → List ℕ
component_fields c = component_word c ∷ []

-- event, site, root, how many components, and these
abbrev pub path_fields : Path → List ℕ
path_fields p =
    (numbered p.event).event ∷ (numbered p.event).site ∷ p.root ∷ length p.components.entries ∷ entry_words component_fields p.components.entries

-- ---- The words of a block

unfoldable pub block_words : Block → List ℕ
block_words b =
    entry_words text_fields b.strings.entries ++ entry_words symbol_fields b.debug.table.entries ++ entry_words path_fields b.ownership.table.entries

-- a block's layout, and how many words it has
pub record Worded : Type 0 where
  pub layout : Layout
  pub words : ℕ

-- 61 at the block's end where a table has no room for its words
unfoldable pub worded : ℕ → Out Block → Out Worded
worded room x = do
  b ← x
  check (leb (length (block_words b)) room) 61 b.signature.table.end
  ok (record { layout = layout_of b; words = length (block_words b) })

-- ---- The lent table

-- as many entries of each table as a block can have: none but that of words is lent
abbrev pub every_room : Rooms
every_room = rooms 256 8192 65535 4096

-- the words, and past them what stood there; zeros where the block is refused or they do not fit
unfoldable pub words_left : List ℕ → Out Block → List ℕ
words_left before (ok b) = cond (leb (length (block_words b)) (length before)) (laid (block_words b) before) (lent (length before) [])
words_left before (refused r) = lent (length before) []

-- what a call leaves of a block at a base
pub record Puts {A : Type 0} (tell : Out Worded → A) (base revision : ℕ) (s before after : List ℕ) (told : A) : Type 0 where
  pub answer : told ≡ tell (based base (worded (length before) (block_of revision every_room s)))
  pub table : after ≡ words_left before (block_of revision every_room s)

-- before a refusal's offset is moved and the table cleared
pub record PutsHere (revision : ℕ) (s before after : List ℕ) (told : Out Worded) : Type 0 where
  pub answer : told ≡ worded (length before) (block_of revision every_room s)
  pub table : (w : Worded) → told ≡ ok w → after ≡ words_left before (block_of revision every_room s)

-- ---- One part of them, as it is read

-- the words of a record that is read at a place; none where it is refused
abbrev pub words_at : {A : Type 0} → (A → List ℕ) → Out (Taken A) → List ℕ
words_at fields (ok t) = fields t.value
words_at fields (refused r) = []

abbrev pub string_words : List ℕ → ℕ → List ℕ
string_words s at = words_at text_fields (string_record s at)

abbrev pub symbol_words : List ℕ → ℕ → List ℕ
symbol_words s at = words_at symbol_fields (symbol_at s at)

-- words put at the front of a table where they fit, with what stood past them; of a record there are at most 65,539
pub record Fronts (words before after : List ℕ) (many : ℕ) : Type 0 where
  pub count : many ≡ length words
  pub few : many ≤ 65539
  pub front : many ≤ length before → after ≡ laid words before

-- these words are put, as many as that, and past them is what stood there; where they do not fit, anything
pub record Laid (before words : List ℕ) (many : ℕ) (after : List ℕ) : Type 0 where
  pub count : many ≡ length words
  pub size : length after ≡ length before
  pub front : many ≤ length before → after ≡ laid words before

-- words put behind any that were put before
abbrev pub Adds : List ℕ → ℕ → List ℕ → ℕ → List ℕ → Type 0
Adds words from t to t' = (before front : List ℕ) → Laid before front from t → Laid before (front ++ words) to t'
