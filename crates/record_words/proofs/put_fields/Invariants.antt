-- Meets its contract. The invariant: the first i words are so many fields.
use mathlib.Core.Path.{◌≡◌}
use lib.ListN.{take}
use Rattle.record_words.specs.Words.{fields}
use Rattle.record_words.proofs.put_fields.Given as goal

abbrev pub invariant-loop-i : goal.invariant-loop-i
invariant-loop-i l = take l.i l.words ≡ fields l.i l.bytes l.at
