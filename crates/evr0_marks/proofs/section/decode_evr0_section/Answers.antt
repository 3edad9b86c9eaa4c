-- By the four: `by_four`.
use Rattle.evr0_marks.proofs.LeavesLaws.{by_four}
use Rattle.evr0_marks.proofs.section.decode_evr0_section.Goals as goal

pub returns : goal.returns
returns c =
    by_four c.decode_evr0_section_by.ensures
