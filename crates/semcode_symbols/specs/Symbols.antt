-- The lent list of debug symbols: one record for each symbol, and zeros past them.
use Rattle.std.specs.Prelude.{◌≡◌, ℕ, ◌-◌, ◌*◌, ◌≤◌, List, [], ◌++◌, map, length, replicate}
use Rattle.local_format.specs.Out.{Out, ok, refused, ◌>>=◌}
use Rattle.semcode_records.specs.Records.{Table, records}
use Rattle.semcode_records.specs.Symbol.{Symbol, symbol_at}
use Rattle.semcode_decode.specs.Block.{Block, decode_block}
use Rattle.semcode_decode.specs.Layout.{Layout, layout, Lent, tables, rooms_of, Decodes}

-- a refusal has none
abbrev pub symbols_in : Out (Table Symbol) → List Symbol
symbols_in (ok t) = map (λ e. e.value) t.entries
symbols_in (refused r) = []

abbrev pub block_symbols : Out Block → List Symbol
block_symbols x = symbols_in (x >>= λ b. ok b.debug.table)

-- zeros
abbrev pub no_symbol : Symbol
no_symbol = record { pc = 0; line = 0; column = 0 }

-- a lent list with so many entries: the symbols, and zeros past them
abbrev pub lent_symbols : ℕ → List Symbol → List Symbol
lent_symbols entries xs = xs ++ replicate (entries - length xs) no_symbol

-- ---- What an answer says of the symbols: a refusal has none

abbrev pub symbol_count : Out Layout → ℕ
symbol_count (ok l) = l.symbols
symbol_count (refused r) = 0

abbrev pub symbols_start : Out Layout → ℕ
symbols_start (ok l) = l.symbols_start
symbols_start (refused r) = 0

-- ---- What a call leaves

-- the lent list of records and the lent tables, as brought or as left
pub record Lists (S T : Type 0) : Type 0 where
  pub symbols : List S
  pub tables : T

abbrev pub lists : {S : Type 0} → List S → List ℕ → List ℕ → List ℕ → Lists S Lent
lists symbols strings paths families = record { symbols = symbols; tables = tables strings paths families }

-- the block is decoded, and the list has its symbols and then zeros; `is` carries the list's records over
pub record Fills {S A : Type 0} (is : S → Symbol) (told : Out Block → A) (base revision : ℕ) (code : List ℕ)
    (before after : Lists S Lent) (answer : A) : Type 0 where
  pub decoded : Decodes told base revision (length before.symbols) code before.tables after.tables answer
  pub symbols :
      let entries = length before.symbols in
      map is after.symbols ≡ lent_symbols entries (block_symbols (decode_block base revision (rooms_of before.tables entries) code))

-- before the list is filled: so many symbols lie in the bytes from a place on, fit a list of so many entries, and are these
pub record Lies (bytes : List ℕ) (entries start count : ℕ) (xs : List Symbol) : Type 0 where
  pub inside : 10 * count ≤ length bytes - start
  pub fit : count ≤ entries
  pub are : symbols_in (records (symbol_at bytes) count start) ≡ xs

pub record Placed (base revision symbols : ℕ) (code : List ℕ) (before after : Lent) (answer : Out Layout) (start count : ℕ) : Type 0 where
  pub decoded : Decodes layout base revision symbols code before after answer
  pub lies : Lies code symbols start count (block_symbols (decode_block base revision (rooms_of before symbols) code))
