-- The invariant: the words of the components before are written, and the rest follows.
use lib.ListN.{length}
use Rattle.semcode_records.specs.Component.{component_at}
use Rattle.path_words.proofs.Laws.{Putting}
use Rattle.path_words.proofs.Steps.put.Given as goal

abbrev pub invariant-loop-word : goal.invariant-loop-word
invariant-loop-word l = Putting (component_at l.self.header_rev l.self.kind l.self.code.now) (length l.fn.words) l.at l.word-index l.cursor l.word-items
