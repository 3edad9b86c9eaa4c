-- So many symbols of 10 bytes from a place on: symbol i has the numbers of its bytes, and past the count there is none.
use mathlib.Core.Path.{◌≡◌, ap, sym, ◌∙◌}
use Prim.Native.Nat.{ℕ, zero, suc, ◌+◌, ◌-◌, ◌*◌, ◌≤◌, ◌<◌}
use native.Mathlib.Omega.{arith}
use mathlib.Core.List.{List, [], ◌∷◌, map}
use lib.ListN.{length, get_or, length-map, get_or-eq_default}
use Rattle.local_format.specs.Out.{Out, ok}
use Rattle.local_format.specs.Field.{le}
use Rattle.local_format.specs.Number.{numbered}
use Rattle.local_format.proofs.OutLaws.{never, ok_same, bind_ok}
use Rattle.semcode_records.specs.Records.{Taken, Entry, Table, records}
use Rattle.semcode_records.specs.Symbol.{Symbol, symbol_at}
use Rattle.semcode_records.proofs.RecordsLaws.{as_many}
use Rattle.semcode_records.proofs.SymbolLaws.{symbol_there_lem, symbols_whole}
use Rattle.semcode_decode.proofs.ReadLaws.{there}
use Rattle.semcode_symbols.specs.Symbols.{symbols_in, no_symbol}

numbered_value : {A : Type 0} (i : ℕ) (es : List (Entry A)) (d : A) {e : Entry A} → numbered i es ≡ ok e → get_or (map (λ e. e.value) es) i d ≡ e.value
unfolding numbered
numbered_value i [] d h = absurd (never h)
numbered_value zero (x ∷ xs) d h = ap (λ e. e.value) (ok_same h)
numbered_value (suc i) (x ∷ xs) d h = numbered_value i xs d h

module _ (s : List ℕ) (at count : ℕ) (inside : 10 * count ≤ length s - at) where
  pub all_read : (t : Table Symbol) × (records (symbol_at s) count at ≡ ok t)
  all_read = let w = bind_ok (records (symbol_at s) count at) _ (symbols_whole s count at inside) in (w.0, w.1)

  pub how_many : length (symbols_in (records (symbol_at s) count at)) ≡ count
  how_many = rw all_read.1 (length-map all_read.0.entries (λ e. e.value) ∙ (as_many (symbol_at s) count at all_read.1).0)

  pub symbol_here : (i : ℕ) → i < count
      → let p = at + 10 * i in
      record { pc = le 4 s p; line = le 4 s (p + 4); column = le 2 s (p + 8) } ≡ get_or (symbols_in (records (symbol_at s) count at)) i no_symbol
  symbol_here i h =
      let p = at + 10 * i in
      let t = all_read.0 in
      let many = (as_many (symbol_at s) count at all_read.1).0 in
      let e = there (symbol_at s) count at i t all_read.1 (omega (arith, many, h)) in
      let start : e.entry.start ≡ at + 10 * i = ok_same (sym e.passed ∙ symbols_whole s i at (omega (arith, inside, h))) in
      let again = sym (symbol_there_lem s (at + 10 * i) (omega (arith, inside, h))) ∙ ap (symbol_at s) (sym start) ∙ e.again in
      let eight : p + 8 ≡ p + 4 + 4 = omega arith in
      rw eight (ap (λ (t : Taken Symbol). t.value) (ok_same again))
      ∙ sym (numbered_value i t.entries no_symbol e.found)
      ∙ ap (λ (x : Out (Table Symbol)). get_or (symbols_in x) i no_symbol) (sym all_read.1)

  pub none_past : (i : ℕ) → count ≤ i → no_symbol ≡ get_or (symbols_in (records (symbol_at s) count at)) i no_symbol
  none_past i h = sym (get_or-eq_default (symbols_in (records (symbol_at s) count at)) no_symbol (omega (arith, how_many, h)))
