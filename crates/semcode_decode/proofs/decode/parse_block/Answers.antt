-- A refusal is moved by the base and the tables are cleared; else they are cleared past the counts, and the families copied.
use Rattle.std.proofs.Common.{ap, sym, ◌∙◌, length}
use Rattle.local_format.specs.Out.{Out}
use Rattle.lent_table.specs.Lent.{lent}
use Rattle.lent_table.proofs.Laws.{front_lent}
use Rattle.semcode_decode.specs.Block.{Block, block_of}
use Rattle.semcode_decode.specs.Layout.{string_starts, path_starts, tables, rooms_of}
use Rattle.semcode_decode.proofs.LentLaws.{accepted, begun}
use Rattle.semcode_decode.proofs.SignatureLaws.{families_copied}
use Rattle.semcode_decode.proofs.decode.parse_block.Goals as goal

pub returns-in-Ok : goal.returns-in-Ok
returns-in-Ok c =
    let a = c.args in
    let block : Out Block = block_of a.header_rev (rooms_of (tables a.strings.now a.paths.now a.families.now) a.symbols) a.code.now in
    let answer = c.in-Ok.ensures.answer in
    let w = accepted a.base_offset block answer in
    let fronts = begun block c.in-Ok.ensures in
    let strings = front_lent c.in-Ok.parsed.string_count (length a.strings.now) c.read_block.new.strings
    (string_starts block) c.read_block.auto.strings w.4 fronts.0 in
    let paths = front_lent c.in-Ok.parsed.path_count (length a.paths.now) c.read_block.new.paths
    (path_starts block) c.read_block.auto.paths w.5 fronts.1 in
    let families = families_copied a.header_rev (rooms_of (tables a.strings.now a.paths.now a.families.now) a.symbols) a.code.now
    (sym answer) in
    record {
      answer = w.0;
      strings = c.clear_from.ensures ∙ strings ∙ ap (lent (length a.strings.now)) w.1;
      paths = c.clear_from-in-Ok.ensures ∙ paths ∙ ap (lent (length a.paths.now)) w.2;
      families = c.copy_bytes.ensures ∙ ap (lent (length a.families.now)) (families ∙ w.3);
    }
