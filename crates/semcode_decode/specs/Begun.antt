-- The tables of starts before they are cleared past the starts.
use Rattle.std.specs.Prelude.{◌≡◌, ℕ, List, [], length}
use Rattle.local_format.specs.Out.{Out, ok, refused}
use Rattle.lent_table.specs.Lent.{lent, laid}
use Rattle.semcode_records.specs.Records.{Table}
use Rattle.semcode_decode.specs.Block.{Block}
use Rattle.semcode_decode.specs.Layout.{Layout, layout, starts_of, strings_in, paths_in}

-- the starts, and past them what stood there; a refusal leaves zeros
abbrev pub left_by : {A : Type 0} → Out (Table A) → List ℕ → List ℕ
left_by (ok t) before = laid (starts_of t) before
left_by (refused r) before = lent (length before) []

-- this is told of a block, and these tables of starts are left
pub record Begins (block : Out Block) (strings paths strings' paths' : List ℕ) (told : Out Layout) : Type 0 where
  pub answer : told ≡ layout block
  pub of_strings : strings' ≡ left_by (strings_in block) strings
  pub of_paths : paths' ≡ left_by (paths_in block) paths

-- before they are cleared: of what a refusal leaves nothing is said
abbrev pub Lies : {A : Type 0} → Out (Table A) → List ℕ → List ℕ → Type 0
Lies (ok t) before after = after ≡ laid (starts_of t) before
Lies (refused r) before after = Unit {0}

pub record Lays (block : Out Block) (strings paths strings' paths' : List ℕ) (told : Out Layout) : Type 0 where
  pub answer : told ≡ layout block
  pub of_strings : Lies (strings_in block) strings strings'
  pub of_paths : Lies (paths_in block) paths paths'
