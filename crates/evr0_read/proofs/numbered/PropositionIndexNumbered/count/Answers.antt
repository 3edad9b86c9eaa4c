-- As many entries as the count of the section's head.
use mathlib.Core.Path.{sym, ap, ◌∙◌}
use Rattle.evr0_section.specs.Head.{Counts}
use Rattle.evr0_read.proofs.TableLaws.{facts}
use Rattle.evr0_read.proofs.numbered.PropositionIndexNumbered.count.Goals as goal

pub returns : goal.returns
returns c bytes cursor d of same =
    ap (λ (n : Counts). n.propositions) same ∙ sym (facts of.rules of.room bytes cursor d of.is).propositions
