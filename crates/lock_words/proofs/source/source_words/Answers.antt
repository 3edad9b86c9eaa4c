-- Meets its contract: four numbers of eight bytes.
use Rattle.lock_words.proofs.SourceLaws.{words_whole}
use Rattle.lock_words.proofs.source.source_words.Goals as goal

pub returns : goal.returns
returns c =
    words_whole _ _ _ _ _ c.fits-source c.told-source c.le_at.ensures c.le_at-2.ensures c.le_at-3.ensures c.le_at-4.ensures
