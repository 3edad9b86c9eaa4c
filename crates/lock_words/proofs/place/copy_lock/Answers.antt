-- Meets its contract: the words of the place are written over.
use native.Mathlib.Omega.{arith}
use mathlib.Core.Path.{refl, ◌∙◌}
use Rattle.lock_words.proofs.PlaceLaws.{span, placed, in_place, copied, slot_full}
use Rattle.lock_words.proofs.place.copy_lock.Goals as goal

pub returns-then-to-from : goal.returns-then-to-from
returns-then-to-from c =
    rw c.if-to-from.true (in_place c.args.words.now c.args.from)

pub returns : goal.returns
returns c =
    let full = slot_full c.args.words.now c.args.from c.told-words c.requires.from_bound in
    placed _ _ _ c.told-words (omega arith) full _ _ _ refl refl (c.copy_within.ensures.after ∙ copied _ _ _ _ (span _))
