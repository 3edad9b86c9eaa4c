-- The tables are cleared past the starts.
use Rattle.std.proofs.Common.{refl, length}
use Rattle.semcode_decode.specs.Layout.{rooms_of}
use Rattle.semcode_functions.specs.File.{FileLent, file_tables}
use Rattle.semcode_functions.proofs.FileLaws.{AsLong, file_read}
use Rattle.semcode_functions.proofs.functions.read_functions.Goals as goal

pub returns-in-Ok : goal.returns-in-Ok
returns-in-Ok c =
    let a = c.args in
    let brought : FileLent = file_tables a.functions.now a.strings.now a.paths.now a.families.now in
    let left : FileLent = let l = c.each_function.new in file_tables l.functions l.strings l.paths a.families.now in
    let long : AsLong brought left =
    let k = c.each_function.auto in record { functions = k.functions; strings = k.strings; paths = k.paths; families = refl } in
    file_read a.cursor brought left _ long a.header_rev (rooms_of brought.block a.symbols) a.bytes.now
    (length a.functions.now) refl c.in-Ok.ensures refl c.leave.ensures
