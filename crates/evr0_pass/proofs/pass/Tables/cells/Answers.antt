-- Meets its contract: both numbers are read at their places in the record.
use Rattle.evr0_pass.specs.Maps.{layout_out}
use Rattle.evr0_pass.proofs.ViewLaws.{parent_numbers}
use Rattle.evr0_pass.proofs.pass.Tables.cells.Goals as goal

pub returns-clause-numbers : goal.returns-clause-numbers
returns-clause-numbers c rs =
    let t = c.args.self.now in
    parent_numbers rs t.payload.now t.starts.now (layout_out t.layout) c.args.i c.requires c.after_name-rest.ensures c.le_at-first.ensures c.le_at.ensures
