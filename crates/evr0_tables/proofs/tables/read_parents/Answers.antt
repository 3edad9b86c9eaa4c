-- Meets its contract: the cells are all there, or the first cut one is refused.
use mathlib.Core.Path.{sym, ap, ◌∙◌}
use native.Mathlib.Omega.{arith}
use Rattle.local_format.specs.Out.{refused}
use Rattle.evr0_tables.proofs.ParentLaws.{parents_there, parents_cut}
use Rattle.evr0_tables.proofs.tables.read_parents.Goals as goal

pub returns-then-rest-count : goal.returns-then-rest-count
returns-then-rest-count c =
    ap refused c.refuse.ensures ∙ sym (parents_cut c.args.payload.now _ _ (omega arith) (omega arith))

pub returns : goal.returns
returns c =
    sym (parents_there c.args.payload.now _ _ (omega arith))
