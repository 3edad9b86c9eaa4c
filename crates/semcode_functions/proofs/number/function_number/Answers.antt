-- The file is decoded anew, and the head is read at its start.
use native.Mathlib.Omega.{arith}
use mathlib.Core.Path.{refl, ap}
use mathlib.Core.List.{List}
use Prim.Native.Nat.{◌<◌}
use lib.ListN.{length}
use Rattle.std.proofs.Common.{rules}
use Rattle.local_format.specs.Out.{Out, refused}
use Rattle.semcode_records.specs.Records.{Entry}
use Rattle.semcode_functions.specs.Function.{Function}
use Rattle.semcode_functions.specs.File.{FileLent, file_tables, functions_of}
use Rattle.semcode_functions.proofs.FileLaws.{AsLong}
use Rattle.semcode_functions.proofs.NumberLaws.{file_refused, not_in_file, in_file}
use Rattle.semcode_functions.proofs.number.function_number.Goals as goal

pub returns-in_err-found : goal.returns-in_err-found
returns-in_err-found c =
    let brought : FileLent = let a = c.args in file_tables a.functions.now a.strings.now a.paths.now a.families.now in
    let decoded : Out (List (Entry Function)) = let a = c.args in functions_of a.cursor a.header_rev 8192 a.bytes.now brought in
    let a = c.args in
    file_refused a.number a.cursor decoded c.in_err-found.ensures refl (search rules)

pub offset_bounds-functions-number : goal.offset_bounds-functions-number
offset_bounds-functions-number c =
    let left : FileLent = let l = c.read_functions.new in file_tables l.functions l.strings l.paths l.families in
    let brought : FileLent = let a = c.args in file_tables a.functions.now a.strings.now a.paths.now a.families.now in
    let within : c.args.number < length left.functions =
    let a = c.args in
    (in_file a.number a.cursor a.header_rev 8192 a.bytes.now brought left c.in_ok-found.ensures
    refl c.if-number-found.true).0 in
    let long : AsLong brought left =
    let k = c.read_functions.auto in record { functions = k.functions; strings = k.strings; paths = k.paths; families = k.families } in
    record { fits = omega (arith, within, long.functions) }

pub bounds-functions-number : goal.bounds-functions-number
bounds-functions-number c =
    let left : FileLent = let l = c.read_functions.new in file_tables l.functions l.strings l.paths l.families in
    let brought : FileLent = let a = c.args in file_tables a.functions.now a.strings.now a.paths.now a.families.now in
    let within : c.args.number < length left.functions =
    let a = c.args in
    (in_file a.number a.cursor a.header_rev 8192 a.bytes.now brought left c.in_ok-found.ensures
    refl c.if-number-found.true).0 in
    within

pub returns-then-number-found : goal.returns-then-number-found
returns-then-number-found c =
    let brought : FileLent = let a = c.args in file_tables a.functions.now a.strings.now a.paths.now a.families.now in
    let left : FileLent = let l = c.read_functions.new in file_tables l.functions l.strings l.paths l.families in
    let a = c.args in
    (in_file a.number a.cursor a.header_rev 8192 a.bytes.now brought left c.in_ok-found.ensures
    refl c.if-number-found.true).1 _ c.read_function.ensures

pub returns : goal.returns
returns c =
    let brought : FileLent = let a = c.args in file_tables a.functions.now a.strings.now a.paths.now a.families.now in
    let decoded : Out (List (Entry Function)) = let a = c.args in functions_of a.cursor a.header_rev 8192 a.bytes.now brought in
    let left : FileLent = let l = c.read_functions.new in file_tables l.functions l.strings l.paths l.families in
    let long : AsLong brought left =
    let k = c.read_functions.auto in record { functions = k.functions; strings = k.strings; paths = k.paths; families = k.families } in
    let a = c.args in
    not_in_file a.number a.cursor decoded c.in_ok-found.ensures refl c.if-number-found.false long
    c.clear_all.ensures (ap refused c.refuse.ensures)
