-- Meets its contract. The invariant: the words of the records before are written, and the rest follows.
use Prim.Native.Nat.{◌≤◌}
use lib.ListN.{length}
use Rattle.record_words.proofs.Laws.{Filling}
use Rattle.record_words.proofs.read_all.Given as goal

abbrev pub invariant-loop-start : goal.invariant-loop-start
invariant-loop-start g l = (l.to ≤ length l.words)
    × Filling (g.R.Record.is_whole l.kind l.bytes) (g.R.Record.words_of l.kind l.bytes) l.starts l.start-index l.to l.words
