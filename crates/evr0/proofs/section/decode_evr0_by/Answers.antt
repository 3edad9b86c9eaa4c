-- What is answered of the section, and what the tables are once the loan is over.
use Rattle.std.proofs.Common.{rules}
use Rattle.evr0.proofs.DecodeLaws.{leaves_by}
use Rattle.evr0.proofs.section.decode_evr0_by.Goals as goal

pub returns : goal.returns
returns c =
    leaves_by c.decode_given.ensures.ends (search rules) (search rules) (search rules)
