-- Meets its contract: four words decide.
use mathlib.Core.Path.{◌∙◌}
use Rattle.lock_register.proofs.RootLaws.{words_decide}
use Rattle.lock_register.proofs.meet.same_source.Goals as goal

pub returns : goal.returns
returns c =
    c.eq.ensures ∙ words_decide _ _ c.fits-lock c.fits-key c.told-lock c.told-key
