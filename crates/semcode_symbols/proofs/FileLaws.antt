-- What is told of a file's last function says where its symbols lie in the file: each function's lie in its block, function by function.
use mathlib.Core.Path.{◌≡◌, refl, ap, sym, subst, ◌∙◌}
use Prim.Native.Nat.{ℕ, ◌+◌, ◌<◌, zero-le}
use native.Mathlib.Omega.{arith}
use mathlib.Core.List.{List, [], map}
use Rattle.local_format.specs.Out.{Out, ok, refused}
use Rattle.local_format.specs.Text.{bytes_at}
use Rattle.semcode_records.specs.Records.{Taken, Entry}
use Rattle.semcode_records.specs.Symbol.{Symbol, symbol_at}
use Rattle.semcode_records.proofs.RecordsLaws.{none_left_lem}
use Rattle.semcode_decode.specs.Block.{Rooms, Block}
use Rattle.semcode_decode.specs.Layout.{layout}
use Rattle.semcode_functions.specs.Function.{Function, function_at, functions_from}
use Rattle.semcode_functions.specs.File.{last_or, Last, nothing, placed, file}
use Rattle.semcode_functions.proofs.FunctionLaws.{function_ok, Row, none, one, row}
use Rattle.semcode_symbols.specs.Symbols.{symbols_in, block_symbols, symbol_count, symbols_start, Lies}
use Rattle.semcode_symbols.specs.FileSymbols.{last_symbols, last_in, last_count, last_start}
use Rattle.semcode_symbols.proofs.BlockSymbols.{as_told}
use Rattle.semcode_symbols.proofs.PartSymbols.{inside, part_symbols}

-- no symbols lie anywhere
none_lie : (s : List ℕ) (entries at : ℕ) → Lies s entries at 0 []
none_lie s entries at = record { inside = zero-le; fit = zero-le; are = ap symbols_in (none_left_lem (symbol_at s) at) }

-- symbols of a part lie in the whole
in_whole : (s : List ℕ) (start len : ℕ) {entries at count : ℕ} {xs : List Symbol} → Lies (bytes_at s start len) entries at count xs
    → Lies s entries (start + at) count xs
in_whole s start len {entries} {at} {count} l =
    record { inside = inside s start len count at l.inside; fit = l.fit; are = sym (part_symbols s start len count at l.inside) ∙ l.are }

module _ (revision : ℕ) (rooms : Rooms) (s : List ℕ) where
  -- these symbols lie in the file where a last block's are said to
  abbrev LastLies : Last → List Symbol → Type 0
  LastLies last xs = Lies s rooms.symbols (last_start last) (last_count last) xs

  abbrev symbols_of : Entry Function → List Symbol
  symbols_of f = block_symbols (ok f.value.block)

  function_lies : (at : ℕ) (t : Taken Function) → function_at revision rooms s at ≡ ok t
      → LastLies (placed (record { start = at; value = t.value; next = t.next })) (block_symbols (ok t.value.block))
  function_lies at t e =
      let code = t.value.head.code in
      let part = bytes_at s code t.value.head.size in
      let lie = subst (λ (x : Out Block). Lies part rooms.symbols (symbols_start (layout x)) (symbol_count (layout x)) (block_symbols x))
      (function_ok revision rooms s at t e).1 (as_told revision rooms part code refl) in
      in_whole s code t.value.head.size lie

  row_lies : {at : ℕ} {fs : List (Entry Function)} → Row revision rooms s at fs → (last : Last) (xs : List Symbol) → LastLies last xs
      → LastLies (last_or last (map placed fs)) (last_or xs (map symbols_of fs))
  unfolding last_or
  row_lies (none h) last xs l = l
  row_lies (one {at} {t} h f r) last xs l = row_lies r _ _ (function_lies at t f)

  -- what is told of the file's last block
  pub file_lies : (cursor left free : ℕ) {l : Last} → l ≡ last_in (file cursor (functions_from revision rooms s left free cursor))
      → LastLies l (last_symbols (functions_from revision rooms s left free cursor))
  file_lies cursor left free e = rw e (go (functions_from revision rooms s left free cursor) refl)
    where
      go : (x : Out (List (Entry Function))) → functions_from revision rooms s left free cursor ≡ x → LastLies (last_in (file cursor x)) (last_symbols x)
      go (ok fs) h = row_lies (row revision rooms s left free cursor fs h) nothing [] (none_lie s rooms.symbols 0)
      go (refused r) h = none_lie s rooms.symbols 0

-- where there are none, they lie anywhere
pub lie_anywhere : {s : List ℕ} {entries start count : ℕ} {xs : List Symbol} → Lies s entries start count xs → count < 1 → Lies s entries 0 0 xs
lie_anywhere {s} {entries} {start} {count} {xs} l h =
    let zero : count ≡ 0 = omega (arith, h) in
    let empty : [] ≡ xs = ap symbols_in (sym (none_left_lem (symbol_at s) start)) ∙ rw zero at l.are in
    subst (Lies s entries 0 0) empty (none_lie s entries 0)
