-- What is answered of the section by the four, and what the tables are once the loan is over.
use Rattle.std.proofs.Common.{rules}
use mathlib.Core.Path.{refl}
use Rattle.rule_table.specs.ByTable.{four}
use Rattle.evr0.proofs.DecodeLaws.{ends_by, leaves_by, leaves}
use Rattle.evr0.proofs.section.decode_evr0_unmarked.Goals as goal

pub returns : goal.returns
returns c =
    leaves (leaves_by (ends_by four refl c.decode.ensures.ends) (search rules) (search rules) (search rules))
