-- Meets its contract: what is told of the last block says where its symbols lie (`FileLaws.file_lies`).
use Rattle.std.proofs.Common.{◌≡◌, ℕ, List, length, ap, ◌∙◌, arith}
use Rattle.local_format.specs.Out.{Out}
use Rattle.semcode_decode.specs.Layout.{tables, rooms_of}
use Rattle.semcode_functions.specs.File.{File, Last, file, file_tables, functions_of}
use Rattle.semcode_symbols.specs.Symbols.{Lies}
use Rattle.semcode_symbols.specs.FileSymbols.{last_symbols, last_in, last_count, last_start}
use Rattle.semcode_symbols.proofs.FileLaws.{file_lies, lie_anywhere}
use Rattle.semcode_symbols.proofs.functions.functions_placed.Goals as goal

told : (bytes functions strings paths families : List ℕ) (cursor revision symbols : ℕ) {last : Last} {answer : Out File} → last ≡ last_in answer
    → let found = functions_of cursor revision symbols bytes (file_tables functions strings paths families) in
    answer ≡ file cursor found → Lies bytes symbols (last_start last) (last_count last) (last_symbols found)
told bytes functions strings paths families cursor revision symbols is answered =
    file_lies revision (rooms_of (tables strings paths families) symbols) bytes cursor 1024 (length functions) (is ∙ ap last_in answered)

pub returns-in_default : goal.returns-in_default
returns-in_default c =
    let a = c.args in
    let read = c.read_functions-answer.ensures in
    let lie =
    told a.bytes.now a.functions.now a.strings.now a.paths.now a.families.now a.cursor a.header_rev a.symbols c.in_default.ensures read.answer in
    record { decoded = read; lies = lie }

pub overflow_add-at : goal.overflow_add-at
overflow_add-at c =
    let a = c.args in
    let lie =
    told a.bytes.now a.functions.now a.strings.now a.paths.now a.families.now a.cursor a.header_rev a.symbols
    c.in-Some.ensures c.read_functions-answer.ensures.answer in
    record { fits = omega (arith, lie.inside) }

pub returns-then-count-eq0 : goal.returns-then-count-eq0
returns-then-count-eq0 c =
    let a = c.args in
    let read = c.read_functions-answer.ensures in
    let lie =
    told a.bytes.now a.functions.now a.strings.now a.paths.now a.families.now a.cursor a.header_rev a.symbols c.in-Some.ensures read.answer in
    rw c.if-count-eq0.true (record { decoded = read; lies = lie_anywhere lie (omega arith) })

pub returns-else-count-eq0 : goal.returns-else-count-eq0
returns-else-count-eq0 c =
    let a = c.args in
    let read = c.read_functions-answer.ensures in
    let lie =
    told a.bytes.now a.functions.now a.strings.now a.paths.now a.families.now a.cursor a.header_rev a.symbols c.in-Some.ensures read.answer in
    record { decoded = read; lies = lie }
