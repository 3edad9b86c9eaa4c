-- Whole symbols are passed by their size, and the first that is cut is read for its refusal.
use Rattle.std.proofs.Common.{◌≤◌, ◌/◌, arith, sym, rules}
use Rattle.semcode_records.specs.Symbol.{symbol_at}
use Rattle.semcode_records.proofs.SymbolLaws.{symbol_within, symbols_whole, symbols_cut}
use Rattle.semcode_decode.proofs.TableLaws.{extent_ends}
use Rattle.semcode_decode.proofs.table.skip_symbols.Goals.{then-whole-wanted+in_ok-read_debug_symbol, else-whole-wanted}
use Rattle.semcode_decode.proofs.table.skip_symbols.Goals as goal

pub returns-in_err-read_debug_symbol : goal.returns-in_err-read_debug_symbol
returns-in_err-read_debug_symbol c =
    let a = c.args in
    let e = symbols_cut a.bytes.now (c.saturating_sub-whole.result / 10) a.count a.at (omega arith) (omega arith) (omega arith) in
    rw (e, ← c.in_err-read_debug_symbol.ensures) (search rules)

pub overflow_add-result : goal.overflow_add-result
overflow_add-result c =
    let enough : c.args.count ≤ c.saturating_sub-whole.result / 10 = elim c.if-whole-wanted.branch [
      | then-whole-wanted+in_ok-read_debug_symbol w ↦ let l = symbol_within _ _ (sym w.in_ok-read_debug_symbol.ensures) in absurd (omega arith)
      | else-whole-wanted w ↦ omega arith
    ] in
    record { fits = omega arith }

pub returns : goal.returns
returns c =
    let a = c.args in
    let enough : c.args.count ≤ c.saturating_sub-whole.result / 10 = elim c.if-whole-wanted.branch [
      | then-whole-wanted+in_ok-read_debug_symbol w ↦ let l = symbol_within _ _ (sym w.in_ok-read_debug_symbol.ensures) in absurd (omega arith)
      | else-whole-wanted w ↦ omega arith
    ] in
    sym (extent_ends (symbol_at a.bytes.now) a.count a.at (symbols_whole a.bytes.now a.count a.at (omega arith)))
