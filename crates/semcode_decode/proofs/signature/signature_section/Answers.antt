-- A tag that is there ends within the block.
use Rattle.std.proofs.Common.{arith, sym, ◌∙◌}
use Rattle.local_format.specs.Tag.{sig0}
use Rattle.local_format.proofs.OutLaws.{check_ok}
use Rattle.local_format.proofs.TagLaws.{tag_there}
use Rattle.semcode_decode.proofs.signature.signature_section.Goals as goal

pub overflow_add-at : goal.overflow_add-at
overflow_add-at c =
    let h = tag_there sig0 c.args.bytes.now c.args.at (sym c.tag_at.ensures ∙ check_ok _ _ _ (sym c.in_ok-check.ensures)) in
    record { fits = omega arith }
