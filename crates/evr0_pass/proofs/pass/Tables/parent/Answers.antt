-- Meets its contract: the cell is read at its place.
use mathlib.Core.Path.{sym, ◌∙◌}
use Rattle.evr0_pass.specs.Maps.{layout_out}
use Rattle.evr0_pass.proofs.ViewLaws.{parent_at_lem}
use Rattle.evr0_pass.proofs.pass.Tables.parent.Goals as goal

pub returns : goal.returns
returns c rs =
    let t = c.args.self.now in
    c.le_at.ensures ∙ sym (parent_at_lem rs t.payload.now t.starts.now (layout_out t.layout) c.args.cell c.requires)
