-- Meets its contract: the component's kind and numbers are those of its part.
use mathlib.Core.Path.{◌∙◌}
use Rattle.lock_words.proofs.WordLaws.{kind_few, component_part}
use Rattle.lock_words.proofs.words.component_word.Goals as goal

pub packed-requires : goal.packed-requires
packed-requires c = rw c.parts-kind.ensures.kind (kind_few _)

pub returns : goal.returns
returns c = c.packed.ensures ∙ rw (c.parts-kind.ensures.kind, c.parts-kind.ensures.first, c.parts-kind.ensures.second) (component_part _)
