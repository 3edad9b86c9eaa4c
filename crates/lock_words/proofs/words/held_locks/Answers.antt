-- Meets its contract: the words after the first, cut in parts of 24, are the locks.
use mathlib.Core.Path.{refl, sym}
use lib.Seq.{length-take-le}
use Rattle.lock_words.proofs.WordLaws.{held_within, held_are}
use Rattle.lock_words.proofs.words.held_locks.Goals as goal

pub slice_bounds-result-end : goal.slice_bounds-result-end
slice_bounds-result-end c =
    sym (length-take-le _ _ (held_within _ _ _ c.told-register refl c.held.ensures.all _ c.as_chunks.ensures.front_len))

pub returns : goal.returns
returns c =
    held_are _ _ _ c.told-register refl c.held.ensures.all _ c.as_chunks.ensures.front
