-- A function by number. The file is decoded anew first.
use Rattle.std.specs.Prelude.{ℕ, List}
use Rattle.local_format.specs.Out.{Out, ok, ◌>>=◌}
use Rattle.local_format.specs.Number.{numbered, Chosen, choose}
use Rattle.semcode_records.specs.Records.{Taken, taken, Entry}
use Rattle.semcode_functions.specs.Function.{Head, Function}
use Rattle.semcode_functions.specs.File.{FileLent, functions_of, LeavesFile}

-- the functions, and the one that was asked for
abbrev pub AskedFunction : Type 0
AskedFunction = Chosen (List (Entry Function)) (Entry Function)

unfoldable pub function_number : ℕ → Out (List (Entry Function)) → Out AskedFunction
function_number n = choose (numbered n)

abbrev pub functions_in : Out AskedFunction → Out (List (Entry Function))
functions_in x = do
  chosen ← x
  ok chosen.decoded

-- its head, and the place after its block
abbrev pub head_in : Out AskedFunction → Out (Taken Head)
head_in x = do
  chosen ← x
  taken chosen.value.value.head chosen.value.next

-- no list of symbols is lent: there is room for all that 36 lets pass. Where the function is refused, the tables are left as zeros
abbrev pub ReadsFunction : {A : Type 0} → (Out AskedFunction → A) → ℕ → ℕ → ℕ → List ℕ → FileLent → FileLent → A → Type 0
ReadsFunction told number cursor revision bytes before after answer =
    let asked = function_number number (functions_of cursor revision 8192 bytes before) in
    LeavesFile (functions_in asked) before after answer (told asked)
