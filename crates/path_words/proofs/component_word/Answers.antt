-- Meets its contract, by the component's kind and numbers.
use Rattle.path_words.proofs.Laws.{word_by}
use Rattle.path_words.proofs.component_word.Goals as goal

pub returns : goal.returns
returns c = rw (c.parts-kind.ensures.kind, c.parts-kind.ensures.first, c.parts-kind.ensures.second) (word_by _)
