-- The block is decoded anew, and the string is read at its start.
use native.Mathlib.Omega.{arith}
use mathlib.Core.Path.{refl, ap}
use Prim.Native.Nat.{◌<◌}
use lib.ListN.{length}
use Rattle.std.proofs.Common.{rules}
use Rattle.local_format.specs.Out.{refused}
use Rattle.local_format.specs.Number.{numbered}
use Rattle.semcode_decode.specs.Layout.{Lent, tables}
use Rattle.semcode_decode.specs.Number.{decode_anew, string_number, text_in}
use Rattle.semcode_read.proofs.AnswerLaws.{cleared, refused_anew, string_anew, missing_anew}
use Rattle.semcode_read.proofs.string_number.Goals as goal

pub returns-in_err-parsed : goal.returns-in_err-parsed
unfolding string_number
returns-in_err-parsed c =
    let brought : Lent =
    let a = c.args in
    tables a.strings.now a.paths.now a.families.now in
    let left : Lent = let l = c.parse_block.new in tables l.strings l.paths l.families in
    let a = c.args in
    refused_anew a.base_offset a.header_rev a.code.now brought left c.in_err-parsed.ensures text_in
    (λ b. numbered a.number b.strings.entries) refl
    (search rules)

pub offset_bounds-strings-number : goal.offset_bounds-strings-number
unfolding string_number
offset_bounds-strings-number c =
    let left : Lent = let l = c.parse_block.new in tables l.strings l.paths l.families in
    let brought : Lent =
    let a = c.args in
    tables a.strings.now a.paths.now a.families.now in
    let within : let a = c.args in a.number < length left.strings =
    let a = c.args in
    (string_anew a.base_offset a.header_rev a.code.now brought left c.in_ok-parsed.ensures refl
    a.number c.if-number-parsed.true).0 in
    record { fits = omega arith }

pub bounds-strings-number : goal.bounds-strings-number
unfolding string_number
bounds-strings-number c =
    let left : Lent = let l = c.parse_block.new in tables l.strings l.paths l.families in
    let brought : Lent =
    let a = c.args in
    tables a.strings.now a.paths.now a.families.now in
    let within : let a = c.args in a.number < length left.strings =
    let a = c.args in
    (string_anew a.base_offset a.header_rev a.code.now brought left c.in_ok-parsed.ensures refl
    a.number c.if-number-parsed.true).0 in
    within

pub returns-then-number-parsed : goal.returns-then-number-parsed
unfolding string_number
returns-then-number-parsed c =
    let brought : Lent =
    let a = c.args in
    tables a.strings.now a.paths.now a.families.now in
    let left : Lent = let l = c.parse_block.new in tables l.strings l.paths l.families in
    let a = c.args in
    (string_anew a.base_offset a.header_rev a.code.now brought left c.in_ok-parsed.ensures refl
    a.number c.if-number-parsed.true).1 _ c.string_at.ensures

pub returns : goal.returns
unfolding string_number
returns c =
    let brought : Lent =
    let a = c.args in
    tables a.strings.now a.paths.now a.families.now in
    let left : Lent = let l = c.parse_block.new in tables l.strings l.paths l.families in
    let a = c.args in
    let e =
    missing_anew a.base_offset a.header_rev a.code.now brought left c.in_ok-parsed.ensures refl
    a.number (λ b. b.strings.entries) (λ l. l.strings) (λ b. refl) c.if-number-parsed.false
    in
    cleared text_in (string_number a.number (decode_anew a.base_offset a.header_rev a.code.now brought)) brought left
    c.not_there.ensures e c.parse_block.auto.strings c.parse_block.auto.paths
    c.parse_block.auto.families (ap refused c.not_there.ensures.answer)
