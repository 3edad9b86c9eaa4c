-- The invariant: the records before are read, and their words are put.
use Rattle.path_words.proofs.PutLaws.{Walking}
use Rattle.path_words.proofs.records.put_all.Given as goal

abbrev pub invariant-loop : goal.invariant-loop
invariant-loop g l =
    Walking (g.R.Records.read l.kind) (g.R.Records.words_of l.kind) l.fn.count l.fn.at l.fn.from l.initial.words l.counter l.cursor l.to l.words
