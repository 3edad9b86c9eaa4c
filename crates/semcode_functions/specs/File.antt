-- What the decoder answers of a file's functions, and what it leaves in the lent tables.
use Rattle.std.specs.Prelude.{◌≡◌, ℕ, List, [], ◌∷◌, map, length}
use Rattle.local_format.specs.Out.{Out, ok, refused, ◌>>=◌}
use Rattle.lent_table.specs.Lent.{lent}
use Rattle.semcode_records.specs.Records.{Entry}
use Rattle.semcode_decode.specs.Layout.{Layout, layout_of, starts_of, families_of, Lent, tables, rooms_of}
use Rattle.semcode_functions.specs.Function.{Function, decode_functions}

-- the last of a list; where it is empty, this one
unfoldable pub last_or : {A : Type 0} → A → List A → A
last_or x [] = x
last_or x (y ∷ ys) = last_or y ys

-- the last function's block: where it starts in the file, and its layout
pub data Last : Type 0 where
  nothing : Last
  block : ℕ → Layout → Last

abbrev pub placed : Entry Function → Last
placed f = block f.value.head.code (layout_of f.value.block)

-- the result: how many functions there are, the cursor after them, and the last one's block
pub record File : Type 0 where
  pub functions : ℕ
  pub cursor : ℕ
  pub last : Last

abbrev pub file_of : ℕ → List (Entry Function) → File
file_of cursor fs =
    record { functions = length fs; cursor = last_or cursor (map (λ f. f.next) fs); last = last_or nothing (map placed fs) }

abbrev pub file : ℕ → Out (List (Entry Function)) → Out File
file cursor x = do
  fs ← x
  ok (file_of cursor fs)

-- ---- Starts and families: a refusal has none

abbrev pub function_starts : Out (List (Entry Function)) → List ℕ
function_starts (ok fs) = map (λ f. f.start) fs
function_starts (refused r) = []

-- of the last function's strings
abbrev pub last_strings : Out (List (Entry Function)) → List ℕ
last_strings (ok fs) = last_or [] (map (λ f. starts_of f.value.block.strings) fs)
last_strings (refused r) = []

-- of the last function's paths
abbrev pub last_paths : Out (List (Entry Function)) → List ℕ
last_paths (ok fs) = last_or [] (map (λ f. starts_of f.value.block.ownership.table) fs)
last_paths (refused r) = []

-- the last function's families
abbrev pub last_families : Out (List (Entry Function)) → List ℕ
last_families (ok fs) = last_or [] (map (λ f. families_of f.value.block) fs)
last_families (refused r) = []

-- ---- The lent tables

-- the table of the functions' starts and those of a block, as brought or as left
pub record FileLent : Type 0 where
  pub functions : List ℕ
  pub block : Lent

abbrev pub file_tables : List ℕ → List ℕ → List ℕ → List ℕ → FileLent
file_tables functions strings paths families = record { functions = functions; block = tables strings paths families }

-- the functions of a file with these tables lent, beside a list of so many symbols
abbrev pub functions_of : ℕ → ℕ → ℕ → List ℕ → FileLent → Out (List (Entry Function))
functions_of cursor revision symbols bytes brought =
    decode_functions revision (rooms_of brought.block symbols) (length brought.functions) bytes cursor

-- what a call leaves: the answer that is due, the functions' starts and then zeros, and in the block's tables those of the last function
pub record LeavesFile {A : Type 0} (decoded : Out (List (Entry Function))) (before after : FileLent) (told due : A) : Type 0 where
  pub answer : told ≡ due
  pub functions : after.functions ≡ lent (length before.functions) (function_starts decoded)
  pub strings : after.block.strings ≡ lent (length before.block.strings) (last_strings decoded)
  pub paths : after.block.paths ≡ lent (length before.block.paths) (last_paths decoded)
  pub families : after.block.families ≡ lent (length before.block.families) (last_families decoded)

-- a file's functions from a cursor on are decoded, and this is told of them
abbrev pub DecodesFile : {A : Type 0} → (Out (List (Entry Function)) → A) → ℕ → ℕ → ℕ → List ℕ → FileLent → FileLent → A → Type 0
DecodesFile told cursor revision symbols bytes before after answer =
    let decoded = functions_of cursor revision symbols bytes before in
    LeavesFile decoded before after answer (told decoded)
