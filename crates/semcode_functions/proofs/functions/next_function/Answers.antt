-- The head is refused, or the block is decoded in the part that the head gives, and a refusal there is moved to its place in the file.
use Rattle.std.proofs.Common.{length, arith, sym, ap, refl}
use Rattle.local_format.specs.Out.{refused}
use Rattle.semcode_decode.specs.Block.{Rooms}
use Rattle.semcode_decode.specs.Layout as of
use Rattle.semcode_functions.proofs.FunctionLaws.{head_ok}
use Rattle.semcode_functions.proofs.TurnLaws.{head_refused, block_refused, block_read}
use Rattle.semcode_functions.proofs.functions.next_function.Goals as goal

pub returns-in-Err : goal.returns-in-Err
returns-in-Err c =
    let a = c.args in
    let rooms : Rooms = of.rooms (length a.strings.now) a.symbols (length a.paths.now) a.families in
    let e = head_refused a.header_rev rooms a.bytes.now a.at (sym c.in-Err.ensures) in
    rw e (record { answer = refl; of_strings = c.clear.ensures; of_paths = c.clear-in-Err.ensures })

pub slice_bounds-part-count : goal.slice_bounds-part-count
slice_bounds-part-count c = let w = head_ok _ _ _ (sym c.in-Ok.ensures) in omega arith

pub slice_bounds-part-start : goal.slice_bounds-part-start
slice_bounds-part-start c = let w = head_ok _ _ _ (sym c.in-Ok.ensures) in omega arith

pub slice_bounds-part-end : goal.slice_bounds-part-end
slice_bounds-part-end c = (head_ok _ _ _ (sym c.in-Ok.ensures)).2

pub returns-in-Ok-parse_tables : goal.returns-in-Ok-parse_tables
returns-in-Ok-parse_tables c =
    let a = c.args in
    let rooms : Rooms = of.rooms (length a.strings.now) a.symbols (length a.paths.now) a.families in
    block_read a.header_rev rooms a.bytes.now a.at _ (sym c.in-Ok.ensures) c.in-Ok-parse_tables.ensures refl

pub returns-in-Err-parse_tables : goal.returns-in-Err-parse_tables
returns-in-Err-parse_tables c =
    let a = c.args in
    let rooms : Rooms = of.rooms (length a.strings.now) a.symbols (length a.paths.now) a.families in
    let e = block_refused a.header_rev rooms a.bytes.now a.at _ (sym c.in-Ok.ensures) c.in-Err-parse_tables.ensures refl in
    rw e.0 (record { answer = ap refused c.based.ensures; of_strings = e.1; of_paths = e.2 })
