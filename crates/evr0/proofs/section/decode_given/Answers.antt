-- By the four, or by a table.
use mathlib.Core.Path.{refl}
use Rattle.rule_table.specs.ByTable.{four}
use Rattle.evr0.proofs.DecodeLaws.{ends_by}
use Rattle.evr0.proofs.section.decode_given.Goals as goal

pub returns-in-Four-clause-ends : goal.returns-in-Four-clause-ends
returns-in-Four-clause-ends c =
    rw c.in-Four.is (ends_by four refl c.decode.ensures.ends)
