-- Meets its contract. The invariant: the words before, and then the components from the cursor on, are those of the table.
use lib.ListN.{length}
use Rattle.semcode_records.specs.Component.{component_at}
use Rattle.locks.proofs.KeyLaws.{Filling}
use Rattle.locks.proofs.key.fill_parts.Given as goal

abbrev pub invariant-loop-word : goal.invariant-loop-word
invariant-loop-word l = Filling (component_at l.header_rev l.kind l.code) (length l.fn.words) l.at l.word-index l.cursor l.word-items
