-- Meets its contract. The invariant: no path before the start meets a lock.
use lib.ListN.{length}
use Rattle.lock_words.specs.Maps.{source_is}
use Rattle.locks.proofs.ClaimLaws.{Free}
use Rattle.locks.proofs.claim.PathClaim.any_met.Given as goal

abbrev pub invariant-loop-start : goal.invariant-loop-start
invariant-loop-start l =
    Free l.self.header_rev l.self.code.now l.self.starts.now (length l.self.starts.now) (source_is l.self.source) l.self.owner l.register l.start-index
