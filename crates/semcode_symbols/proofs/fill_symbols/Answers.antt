-- A turn stores the record that is wanted at i; a list whose front is as wanted, as far as it reaches, is the wanted one.
use Rattle.std.proofs.Common.{◌≡◌, ℕ, List, ◌*◌, ◌-◌, ◌≤◌, length, refl, sym, ◌∙◌, arith}
use Rattle.semcode_records.specs.Records.{records}
use Rattle.semcode_records.specs.Symbol.{symbol_at}
use Rattle.semcode_symbols.specs.Symbols.{symbols_in}
use Rattle.semcode_symbols.proofs.SymbolsLaws.{how_many, symbol_here, none_past}
use Rattle.semcode_symbols.proofs.Wanted.{none, wanted, wanted_long, wanted_is, is_wanted}
use Rattle.semcode_symbols.proofs.Filled.{filled_more, filled_whole}
use Rattle.semcode_symbols.proofs.fill_symbols.Goals as goal

full : (s : List ℕ) (at count n : ℕ) → (10 * count ≤ length s - at) × (count ≤ n) → length (wanted n (symbols_in (records (symbol_at s) count at))) ≡ n
full s at count n h = wanted_long n _ (omega (arith, how_many s at count h.0, h.1))

pub loop-i-init : goal.loop-i-init
loop-i-init c =
    let a = c.args in
    let n = length a.symbols.now in
    record { long = sym (full a.code.now a.at a.count n c.requires); front = refl }

pub loop-i-preserved : goal.loop-i-preserved
loop-i-preserved c =
    let a = c.args in
    let n = length a.symbols.now in
    let i = c.loop-i.i in
    let xs = symbols_in (records (symbol_at a.code.now) a.count a.at) in
    let long = full a.code.now a.at a.count n c.requires in
    let here = symbol_here a.code.now a.at a.count c.requires.0 i c.loop-i-test.true in
    rw c.store_symbol.ensures (filled_more (wanted n xs) c.loop-i.invariant (omega (arith, long)) none _ (is_wanted n xs i _ (c.symbol_at-v.ensures ∙ here)))

pub loop-i-2-preserved : goal.loop-i-2-preserved
loop-i-2-preserved c =
    let a = c.args in
    let n = length a.symbols.now in
    let i = c.loop-i-2.i in
    let xs = symbols_in (records (symbol_at a.code.now) a.count a.at) in
    let long = full a.code.now a.at a.count n c.requires in
    let past = none_past a.code.now a.at a.count c.requires.0 i (omega arith) in
    rw c.store_symbol-in-loop-i-2.ensures (filled_more (wanted n xs) c.loop-i-2.invariant (omega (arith, long)) none _ (is_wanted n xs i none past))

pub returns : goal.returns
returns c =
    let a = c.args in
    let n = length a.symbols.now in
    let xs = symbols_in (records (symbol_at a.code.now) a.count a.at) in
    let long = full a.code.now a.at a.count n c.requires in
    wanted_is n xs (filled_whole (wanted n xs) c.loop-i-2.invariant (omega (arith, long)))
