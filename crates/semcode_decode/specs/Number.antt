-- A string, a debug symbol, a path and a path's component by number. Each decodes the block anew first.
use Rattle.std.specs.Prelude.{ℕ, List}
use Rattle.local_format.specs.Out.{Out, ok, ◌>>=◌}
use Rattle.local_format.specs.Number.{numbered, Chosen, choose}
use Rattle.local_format.specs.Text.{Span}
use Rattle.semcode_records.specs.Records.{Taken, taken, Entry}
use Rattle.semcode_records.specs.Symbol.{Symbol}
use Rattle.semcode_records.specs.Component.{Component}
use Rattle.semcode_records.specs.Path.{Path, Head, head_of}
use Rattle.semcode_decode.specs.Block.{Block, decode_block}
use Rattle.semcode_decode.specs.Layout.{Lent, rooms_of, Leaves}

-- the block decoded anew, with tables lent and no list of symbols: there is room for all that 36 lets pass
abbrev pub decode_anew : ℕ → ℕ → List ℕ → Lent → Out Block
decode_anew base revision code brought = decode_block base revision (rooms_of brought 8192) code

-- the block, and the record that was asked for
abbrev pub Asked : Type 0 → Type 0
Asked A = Chosen Block (Entry A)

unfoldable pub string_number : ℕ → Out Block → Out (Asked Span)
string_number n = choose (λ b. numbered n b.strings.entries)

unfoldable pub symbol_number : ℕ → Out Block → Out (Asked Symbol)
symbol_number n = choose (λ b. numbered n b.debug.table.entries)

unfoldable pub path_number : ℕ → Out Block → Out (Asked Path)
path_number n = choose (λ b. numbered n b.ownership.table.entries)

-- component k of path n
unfoldable pub component_number : ℕ → ℕ → Out Block → Out (Asked Component)
component_number n k = choose (λ b. do
  path ← numbered n b.ownership.table.entries
  numbered k path.value.components.entries)

-- ---- The answers

abbrev pub block_in : {A : Type 0} → Out (Asked A) → Out Block
block_in x = do
  chosen ← x
  ok chosen.decoded

abbrev pub taken_in : {A : Type 0} → Out (Asked A) → Out (Taken A)
taken_in x = do
  chosen ← x
  taken chosen.value.value chosen.value.next

abbrev pub text_in : Out (Asked Span) → Out Span
text_in x = do
  chosen ← x
  ok chosen.value.value

abbrev pub head_in : Out (Asked Path) → Out (Taken Head)
head_in x = do
  chosen ← x
  taken (head_of chosen.value.value) chosen.value.next

-- the tables are left as the block has them; where the record is refused, as zeros
abbrev pub Reads : {A B : Type 0} → (Out (Asked A) → B) → (Out Block → Out (Asked A)) → ℕ → ℕ → List ℕ → Lent → Lent → B → Type 0
Reads told ask base revision code before after answer =
    let asked = ask (decode_anew base revision code before) in
    Leaves (block_in asked) before after answer (told asked)
