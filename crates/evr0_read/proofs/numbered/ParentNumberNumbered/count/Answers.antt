-- As many entries as the count of the section's head.
use mathlib.Core.Path.{sym, ap, ◌∙◌}
use Rattle.evr0_section.specs.Head.{Counts}
use Rattle.evr0_read.proofs.TableLaws.{parent_count}
use Rattle.evr0_read.proofs.numbered.ParentNumberNumbered.count.Goals as goal

pub returns : goal.returns
returns c bytes cursor d of same =
    ap (λ (n : Counts). n.parents) same ∙ sym (parent_count of.rules of.room bytes cursor d of.is)
