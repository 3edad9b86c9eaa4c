-- The invariant: the state stands for what is left.
use Rattle.utf8_automaton.proofs.StepsLaws.{Walks}
use Rattle.utf8_automaton.proofs.is_utf8.Given as goal

abbrev pub invariant-loop-byte : goal.invariant-loop-byte
invariant-loop-byte l = Walks l.bytes l.byte-index l.state
