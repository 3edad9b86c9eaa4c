-- The symbols that lie in a part of a file are those of the file, the part's start further on: symbol by symbol, by the bytes of its numbers.
use mathlib.Core.Path.{◌≡◌, refl, ap, sym, ◌∙◌}
use Prim.Native.Nat.{ℕ, zero, suc, ◌+◌, ◌-◌, ◌*◌, ◌≤◌}
use native.Mathlib.Omega.{arith}
use mathlib.Core.List.{List, ◌∷◌}
use lib.ListN.{length, drop, length-take, length-drop}
use Rattle.local_format.specs.Field.{le}
use Rattle.local_format.specs.Text.{bytes_at}
use Rattle.local_format.proofs.FieldLaws.{le_drop, le_take}
use Rattle.semcode_records.specs.Records.{records}
use Rattle.semcode_records.specs.Symbol.{Symbol, symbol_at}
use Rattle.semcode_records.proofs.SymbolLaws.{symbol_there_lem}
use Rattle.semcode_symbols.specs.Symbols.{symbols_in}
use Rattle.semcode_symbols.proofs.SymbolsLaws.{all_read}

-- the numbers at a place
abbrev numbers : List ℕ → ℕ → Symbol
numbers s at = record { pc = le 4 s at; line = le 4 s (at + 4); column = le 2 s (at + 4 + 4) }

-- the first of some symbols, and those after it
first : (s : List ℕ) (count at : ℕ) → 10 * suc count ≤ length s - at
    → symbols_in (records (symbol_at s) (suc count) at) ≡ numbers s at ∷ symbols_in (records (symbol_at s) count (at + 10))
unfolding records
first s count at h =
    let p : at + 10 ≤ length s = omega (arith, h) in
    let q : 10 * count ≤ length s - (at + 10) = omega (arith, h) in
    rw (symbol_there_lem s at p, (all_read s (at + 10) count q).1)

module _ (s : List ℕ) (start len : ℕ) where
  abbrev part : List ℕ
  part = bytes_at s start len

  short : length part ≤ len
  short = rw length-take (omega arith)

  long : length part ≤ length s - start
  long = rw (length-take, length-drop) (omega arith)

  pub inside : (count at : ℕ) → 10 * count ≤ length part - at → 10 * count ≤ length s - (start + at)
  inside count at h = omega (arith, long, h)

  same_number : (width at : ℕ) → at + width ≤ length part → le width part at ≡ le width s (start + at)
  same_number width at h = le_take width (drop start s) len at (omega (arith, short, h)) ∙ le_drop width s start at

  same_symbol : (at : ℕ) → at + 10 ≤ length part → numbers part at ≡ numbers s (start + at)
  same_symbol at h =
      let l : start + (at + 4) ≡ start + at + 4 = omega arith in
      let c : start + (at + 4 + 4) ≡ start + at + 4 + 4 = omega arith in
      rw (same_number 4 at (omega (arith, h)), same_number 4 (at + 4) (omega (arith, h)), same_number 2 (at + 4 + 4) (omega (arith, h)), l, c)

  pub part_symbols : (count at : ℕ) → 10 * count ≤ length part - at
      → symbols_in (records (symbol_at part) count at) ≡ symbols_in (records (symbol_at s) count (start + at))
  unfolding records
  part_symbols zero at h = refl
  part_symbols (suc count) at h =
      let on : start + (at + 10) ≡ start + at + 10 = omega arith in
      let rest = part_symbols count (at + 10) (omega (arith, h)) ∙ ap (λ (p : ℕ). symbols_in (records (symbol_at s) count p)) on in
      first part count at h
      ∙ (λ i. same_symbol at (omega (arith, h)) i ∷ rest i)
      ∙ sym (first s count (start + at) (inside (suc count) at h))
