-- The block is decoded anew, and the path is read at its start.
use native.Mathlib.Omega.{arith}
use mathlib.Core.Path.{refl, ap}
use Prim.Native.Nat.{◌<◌}
use lib.ListN.{length}
use Rattle.std.proofs.Common.{rules}
use Rattle.local_format.specs.Out.{refused}
use Rattle.local_format.specs.Number.{numbered}
use Rattle.semcode_decode.specs.Layout.{Lent, tables}
use Rattle.semcode_decode.specs.Number.{decode_anew, path_number, head_in}
use Rattle.semcode_read.proofs.AnswerLaws.{cleared, refused_anew, path_anew, missing_anew}
use Rattle.semcode_read.proofs.path_number.Goals as goal

pub returns-in_err-parsed : goal.returns-in_err-parsed
unfolding path_number
returns-in_err-parsed c =
    let brought : Lent =
    let a = c.args in
    tables a.strings.now a.paths.now a.families.now in
    let left : Lent = let l = c.parse_block.new in tables l.strings l.paths l.families in
    let a = c.args in
    refused_anew a.base_offset a.header_rev a.code.now brought left c.in_err-parsed.ensures head_in
    (λ b. numbered a.number b.ownership.table.entries) refl
    (search rules)

pub offset_bounds-paths-number : goal.offset_bounds-paths-number
unfolding path_number
offset_bounds-paths-number c =
    let left : Lent = let l = c.parse_block.new in tables l.strings l.paths l.families in
    let brought : Lent =
    let a = c.args in
    tables a.strings.now a.paths.now a.families.now in
    let within : let a = c.args in a.number < length left.paths =
    let a = c.args in
    (path_anew a.base_offset a.header_rev a.code.now brought left c.in_ok-parsed.ensures refl
    a.number c.if-number-parsed.true).0 in
    record { fits = omega arith }

pub bounds-paths-number : goal.bounds-paths-number
unfolding path_number
bounds-paths-number c =
    let left : Lent = let l = c.parse_block.new in tables l.strings l.paths l.families in
    let brought : Lent =
    let a = c.args in
    tables a.strings.now a.paths.now a.families.now in
    let within : let a = c.args in a.number < length left.paths =
    let a = c.args in
    (path_anew a.base_offset a.header_rev a.code.now brought left c.in_ok-parsed.ensures refl
    a.number c.if-number-parsed.true).0 in
    within

pub returns-then-number-parsed : goal.returns-then-number-parsed
unfolding path_number
returns-then-number-parsed c =
    let brought : Lent =
    let a = c.args in
    tables a.strings.now a.paths.now a.families.now in
    let left : Lent = let l = c.parse_block.new in tables l.strings l.paths l.families in
    let a = c.args in
    (path_anew a.base_offset a.header_rev a.code.now brought left c.in_ok-parsed.ensures refl
    a.number c.if-number-parsed.true).1 _ c.read_path.ensures

pub returns : goal.returns
unfolding path_number
returns c =
    let brought : Lent =
    let a = c.args in
    tables a.strings.now a.paths.now a.families.now in
    let left : Lent = let l = c.parse_block.new in tables l.strings l.paths l.families in
    let a = c.args in
    let e =
    missing_anew a.base_offset a.header_rev a.code.now brought left c.in_ok-parsed.ensures refl
    a.number (λ b. b.ownership.table.entries) (λ l. l.paths) (λ b. refl) c.if-number-parsed.false
    in
    cleared head_in (path_number a.number (decode_anew a.base_offset a.header_rev a.code.now brought)) brought left
    c.not_there.ensures e c.parse_block.auto.strings c.parse_block.auto.paths
    c.parse_block.auto.families (ap refused c.not_there.ensures.answer)
