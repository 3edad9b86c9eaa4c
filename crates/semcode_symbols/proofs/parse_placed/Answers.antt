-- What the block's layout says of its symbols is `BlockSymbols.as_told`.
use Rattle.semcode_decode.specs.Layout.{tables, rooms_of}
use Rattle.semcode_symbols.proofs.BlockSymbols.{as_told}
use Rattle.semcode_symbols.proofs.parse_placed.Goals as goal

pub returns-in-Ok : goal.returns-in-Ok
returns-in-Ok c =
    let a = c.args in
    let brought = tables a.strings.now a.paths.now a.families.now in
    let told = as_told a.header_rev (rooms_of brought a.symbols) a.code.now a.base_offset c.in-Ok.ensures.answer in
    record { decoded = c.in-Ok.ensures; lies = told }

pub returns-in-Err : goal.returns-in-Err
returns-in-Err c =
    let a = c.args in
    let brought = tables a.strings.now a.paths.now a.families.now in
    let told = as_told a.header_rev (rooms_of brought a.symbols) a.code.now a.base_offset c.in-Err.ensures.answer in
    record { decoded = c.parse_block-answer.ensures; lies = told }
