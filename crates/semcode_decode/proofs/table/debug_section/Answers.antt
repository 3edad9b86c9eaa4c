-- A tag that is there ends within the block.
use Rattle.std.proofs.Common.{arith, sym, ◌∙◌}
use Rattle.local_format.specs.Tag.{dbg0}
use Rattle.local_format.proofs.TagLaws.{tag_there}
use Rattle.semcode_decode.proofs.table.debug_section.Goals as goal

pub overflow_add-at : goal.overflow_add-at
overflow_add-at c =
    let h = tag_there dbg0 c.args.bytes.now c.args.at (sym c.tag_at.ensures ∙ c.if-tag_at.true) in
    record { fits = omega arith }
