-- Meets its contract: as many locks as the first word says.
use native.Mathlib.Omega.{arith}
use Rattle.lock_words.proofs.WordLaws.{locks_length}
use Rattle.lock_words.proofs.words.held.Goals as goal

pub returns-clause-all : goal.returns-clause-all
returns-clause-all c =
    rw (locks_length _ _) (omega arith)
