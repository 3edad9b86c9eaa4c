-- By the schema that is read.
use mathlib.Core.Path.{ap, ◌∙◌}
use Rattle.evr0_section.specs.Head.{span_width}
use Rattle.columns_rebuild.proofs.HeadLaws.{span_is, span_cut}
use Rattle.columns_rebuild.proofs.head.span_at.Goals as goal

pub returns-in-Some : goal.returns-in-Some
returns-in-Some c h =
    c.span_of.ensures ∙ ap span_width (span_is _ _ c.in-Some.ensures)

pub returns-in-None : goal.returns-in-None
returns-in-None c h =
    absurd (span_cut _ _ c.in-None.ensures h)
