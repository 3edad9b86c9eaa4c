-- What the decoder answers as a flat struct, and what the tables are once the loan is over.
use Rattle.std.proofs.Common.{rules}
use Rattle.falgnust.proofs.SectionLaws.{decodes_unmarked}
use Rattle.falgnust.proofs.section.opened.Goals as goal

pub returns : goal.returns
returns c =
    decodes_unmarked c.into.ensures c.decode_at.ensures.ends (search rules) (search rules) (search rules)
