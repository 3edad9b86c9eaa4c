-- The invariant: the words of i paths are written, and the rest follows.
use Rattle.path_words.specs.Words.{path_words}
use Rattle.path_words.proofs.Laws.{Filling}
use Rattle.path_words.proofs.read_paths.Given as goal

abbrev pub invariant-loop-i : goal.invariant-loop-i
invariant-loop-i l = Filling (path_words l.header_rev l.code) l.starts l.i l.to l.initial.words l.words
