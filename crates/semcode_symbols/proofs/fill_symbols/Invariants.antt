-- The first i records of the list are as wanted, in either loop.
use Rattle.std.proofs.Common.{length}
use Rattle.semcode_records.specs.Records.{records}
use Rattle.semcode_records.specs.Symbol.{symbol_at}
use Rattle.semcode_symbols.specs.Symbols.{symbols_in}
use Rattle.semcode_symbols.proofs.Wanted.{wanted}
use Rattle.semcode_symbols.proofs.Filled.{Filled}
use Rattle.semcode_symbols.proofs.fill_symbols.Given as goal

abbrev pub invariant-loop-i : goal.invariant-loop-i
invariant-loop-i l = Filled (wanted (length l.fn.symbols) (symbols_in (records (symbol_at l.code) l.count l.at))) l.i l.symbols

abbrev pub invariant-loop-i-2 : goal.invariant-loop-i-2
invariant-loop-i-2 l = Filled (wanted (length l.fn.symbols) (symbols_in (records (symbol_at l.code) l.count l.at))) l.i l.symbols
