-- The block is decoded anew, and the symbol is read at its place among the symbols.
use native.Mathlib.Omega.{arith}
use mathlib.Core.Path.{refl, ap}
use Prim.Native.Nat.{◌+◌, ◌*◌, ◌≤◌}
use lib.ListN.{length}
use Rattle.std.proofs.Common.{rules}
use Rattle.local_format.specs.Out.{refused}
use Rattle.local_format.specs.Number.{numbered}
use Rattle.semcode_decode.specs.Layout.{Lent, tables}
use Rattle.semcode_decode.specs.Number.{decode_anew, symbol_number, taken_in}
use Rattle.semcode_read.proofs.AnswerLaws.{cleared, refused_anew, symbol_anew, missing_anew}
use Rattle.semcode_read.proofs.symbol_number.Goals as goal

pub returns-in_err-parsed : goal.returns-in_err-parsed
unfolding symbol_number
returns-in_err-parsed c =
    let brought : Lent =
    let a = c.args in
    tables a.strings.now a.paths.now a.families.now in
    let left : Lent = let l = c.parse_block.new in tables l.strings l.paths l.families in
    let a = c.args in
    refused_anew a.base_offset a.header_rev a.code.now brought left c.in_err-parsed.ensures taken_in
    (λ b. numbered a.number b.debug.table.entries) refl
    (search rules)

pub overflow_mul-number : goal.overflow_mul-number
unfolding symbol_number
overflow_mul-number c =
    let brought : Lent =
    let a = c.args in
    tables a.strings.now a.paths.now a.families.now in
    let left : Lent = let l = c.parse_block.new in tables l.strings l.paths l.families in
    let within : let a = c.args in c.in_ok-parsed.parsed.debug_symbols_start + 10 * a.number + 10 ≤ length a.code.now =
    let a = c.args in
    (symbol_anew a.base_offset a.header_rev a.code.now brought left c.in_ok-parsed.ensures refl
    a.number c.if-number-parsed.true).0 in
    record { fits = omega arith }

pub overflow_add-parsed : goal.overflow_add-parsed
unfolding symbol_number
overflow_add-parsed c =
    let brought : Lent =
    let a = c.args in
    tables a.strings.now a.paths.now a.families.now in
    let left : Lent = let l = c.parse_block.new in tables l.strings l.paths l.families in
    let within : let a = c.args in c.in_ok-parsed.parsed.debug_symbols_start + 10 * a.number + 10 ≤ length a.code.now =
    let a = c.args in
    (symbol_anew a.base_offset a.header_rev a.code.now brought left c.in_ok-parsed.ensures refl
    a.number c.if-number-parsed.true).0 in
    record { fits = omega arith }

pub returns-then-number-parsed : goal.returns-then-number-parsed
unfolding symbol_number
returns-then-number-parsed c =
    let brought : Lent =
    let a = c.args in
    tables a.strings.now a.paths.now a.families.now in
    let left : Lent = let l = c.parse_block.new in tables l.strings l.paths l.families in
    let a = c.args in
    (symbol_anew a.base_offset a.header_rev a.code.now brought left c.in_ok-parsed.ensures refl
    a.number c.if-number-parsed.true).1 _ c.read_debug_symbol.ensures

pub returns : goal.returns
unfolding symbol_number
returns c =
    let brought : Lent =
    let a = c.args in
    tables a.strings.now a.paths.now a.families.now in
    let left : Lent = let l = c.parse_block.new in tables l.strings l.paths l.families in
    let a = c.args in
    let e =
    missing_anew a.base_offset a.header_rev a.code.now brought left c.in_ok-parsed.ensures refl
    a.number (λ b. b.debug.table.entries) (λ l. l.symbols) (λ b. refl) c.if-number-parsed.false
    in
    cleared taken_in (symbol_number a.number (decode_anew a.base_offset a.header_rev a.code.now brought)) brought left
    c.not_there.ensures e c.parse_block.auto.strings c.parse_block.auto.paths
    c.parse_block.auto.families (ap refused c.not_there.ensures.answer)
