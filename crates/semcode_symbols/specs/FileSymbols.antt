-- The lent list after all functions of a file: the last function's symbols, and zeros past them.
use Rattle.std.specs.Prelude.{◌≡◌, ℕ, ◌+◌, List, [], map, length}
use Rattle.local_format.specs.Out.{Out, ok, refused}
use Rattle.semcode_records.specs.Records.{Entry}
use Rattle.semcode_records.specs.Symbol.{Symbol}
use Rattle.semcode_functions.specs.Function.{Function}
use Rattle.semcode_functions.specs.File.{last_or, Last, nothing, block, File, file, FileLent, file_tables, functions_of, DecodesFile}
use Rattle.semcode_symbols.specs.Symbols.{block_symbols, lent_symbols, Lists, Lies}

-- a refusal has none, nor has a file without functions
abbrev pub last_symbols : Out (List (Entry Function)) → List Symbol
last_symbols (ok fs) = last_or [] (map (λ f. block_symbols (ok f.value.block)) fs)
last_symbols (refused r) = []

-- ---- What an answer says of them: where in the file how many start

abbrev pub last_in : Out File → Last
last_in (ok f) = f.last
last_in (refused r) = nothing

abbrev pub last_count : Last → ℕ
last_count nothing = 0
last_count (block code layout) = layout.symbols

abbrev pub last_start : Last → ℕ
last_start nothing = 0
last_start (block code layout) = code + layout.symbols_start

-- ---- What a call leaves

abbrev pub file_lists : {S : Type 0} → List S → List ℕ → List ℕ → List ℕ → List ℕ → Lists S FileLent
file_lists symbols functions strings paths families = record { symbols = symbols; tables = file_tables functions strings paths families }

-- the functions are decoded, and the list has the last one's symbols and then zeros; `is` carries the list's records over
pub record FillsFile {S A : Type 0} (is : S → Symbol) (told : Out (List (Entry Function)) → A) (cursor revision : ℕ) (bytes : List ℕ)
    (before after : Lists S FileLent) (answer : A) : Type 0 where
  pub decoded : DecodesFile told cursor revision (length before.symbols) bytes before.tables after.tables answer
  pub symbols :
      let entries = length before.symbols in
      map is after.symbols ≡ lent_symbols entries (last_symbols (functions_of cursor revision entries bytes before.tables))

-- before the list is filled
pub record PlacedFile (cursor revision symbols : ℕ) (bytes : List ℕ) (before after : FileLent) (answer : Out File) (start count : ℕ) : Type 0 where
  pub decoded : DecodesFile (file cursor) cursor revision symbols bytes before after answer
  pub lies : Lies bytes symbols start count (last_symbols (functions_of cursor revision symbols bytes before))
