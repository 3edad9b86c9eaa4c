-- Between the loop's turns: what is told of one function, and what the tables hold before they are cleared past the starts.
use Rattle.std.specs.Prelude.{◌≡◌, ℕ, List, [], false, length, take, drop}
use Rattle.local_format.specs.Out.{Out, ok, refused, ◌>>=◌}
use Rattle.local_format.specs.Text.{bytes_at}
use Rattle.lent_table.specs.Lent.{lent, Front}
use Rattle.semcode_records.specs.Records.{Taken, Entry}
use Rattle.semcode_decode.specs.Layout.{Layout, layout_of, string_starts, path_starts}
use Rattle.semcode_functions.specs.Function.{Function}
use Rattle.semcode_functions.specs.File.{Last, nothing, block, File, file, function_starts, last_strings, last_paths, FileLent, file_tables}

-- where the block starts, its layout, and the place after it
pub record Next : Type 0 where
  pub code : ℕ
  pub layout : Layout
  pub next : ℕ

abbrev pub next_of : Out (Taken Function) → Out Next
next_of x = do
  f ← x
  ok (record { code = f.value.head.code; layout = layout_of f.value.block; next = f.next })

-- a table of starts that is not cleared past them: it begins with the starts, or after a refusal holds zeros
abbrev pub Begun : {A : Type 0} → Out A → List ℕ → List ℕ → List ℕ → Type 0
Begun (ok x) starts before after = Front starts after
Begun (refused r) starts before after = after ≡ lent (length before) []

-- one function was read
pub record BeginsFunction (function : Out (Taken Function)) (strings paths strings' paths' : List ℕ) (told : Out Next) : Type 0 where
  pub answer : told ≡ next_of function
  pub of_strings : Begun function (string_starts (function >>= λ f. ok f.value.block)) strings strings'
  pub of_paths : Begun function (path_starts (function >>= λ f. ok f.value.block)) paths paths'

-- all functions were read
pub record BeginsFile (cursor : ℕ) (decoded : Out (List (Entry Function))) (functions strings paths strings' paths' : List ℕ) (told : Out File)
    : Type 0 where
  pub answer : told ≡ file cursor decoded
  pub of_functions : Front (function_starts decoded) functions
  pub of_strings : Begun decoded (last_strings decoded) strings strings'
  pub of_paths : Begun decoded (last_paths decoded) paths paths'

-- ---- The last block, and zeros where there is none
abbrev pub no_layout : Layout
no_layout =
    record {
      strings = 0;
      strings_end = 0;
      debug = false;
      symbols = 0;
      symbols_start = 0;
      ownership = false;
      paths = 0;
      signature = false;
      families = 0;
      families_start = 0;
      instructions = 0;
    }

abbrev pub last_code : Last → ℕ
last_code nothing = 0
last_code (block code layout) = code

abbrev pub last_layout : Last → Layout
last_layout nothing = no_layout
last_layout (block code layout) = layout

-- the bytes where its families stand
abbrev pub family_bytes : List ℕ → Last → List ℕ
family_bytes s last = bytes_at (drop (last_code last) s) (last_layout last).families_start (last_layout last).families

-- ---- How the tables are left

-- zeros in every table
abbrev pub zeros : FileLent → FileLent
zeros t =
    file_tables (lent (length t.functions) []) (lent (length t.block.strings) []) (lent (length t.block.paths) [])
    (lent (length t.block.families) [])

-- zeros past as many starts as an answer counts, and the last function's families from their place in the bytes
abbrev pub left_of : File → List ℕ → FileLent → FileLent
left_of f s t =
    file_tables (lent (length t.functions) (take f.functions t.functions))
    (lent (length t.block.strings) (take (last_layout f.last).strings t.block.strings))
    (lent (length t.block.paths) (take (last_layout f.last).paths t.block.paths))
    (lent (length t.block.families) (take (length t.block.families) (family_bytes s f.last)))
