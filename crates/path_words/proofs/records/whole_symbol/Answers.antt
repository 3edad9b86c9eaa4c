-- Where 10 bytes are there, the fields are those at their places.
use Rattle.std.proofs.Common.{◌≡◌, arith, sym}
use Prim.Native.Nat.{◌+◌}
use Rattle.semcode_records.proofs.SymbolLaws.{symbol_there_lem}
use Rattle.path_words.proofs.records.whole_symbol.Goals as goal

pub returns : goal.returns
returns c =
    let at = c.args.at in
    let col : at + 4 + 4 ≡ at + 8 = omega arith in
    let e = symbol_there_lem c.args.code.now at (omega arith) in
    rw (c.le_at.ensures, c.le_at-2.ensures, c.le_at-3.ensures) (sym (rw col at e))
