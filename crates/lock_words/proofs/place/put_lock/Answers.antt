-- Meets its contract: the words of the place are written over.
use mathlib.Core.Path.{refl}
use Rattle.lock_words.proofs.PlaceLaws.{span, placed}
use Rattle.lock_words.proofs.place.put_lock.Goals as goal

pub returns : goal.returns
returns c =
    placed _ _ _ c.told-words c.requires c.told-key _ _ _ (span _) c.copy_from_slice.ensures.after refl
