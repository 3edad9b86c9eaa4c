-- Meets its contract. The invariant: the locks held, and then one for each path before the start.
use lib.ListN.{length}
use Rattle.lock_words.specs.Maps.{source_is}
use Rattle.locks.proofs.ClaimLaws.{Storing}
use Rattle.locks.proofs.claim.PathClaim.store.Given as goal

abbrev pub invariant-loop-i : goal.invariant-loop-i
invariant-loop-i l =
    Storing l.self.header_rev l.self.code.now l.self.starts.now (length l.self.starts.now) (source_is l.self.source) l.self.owner l.initial.register
    l.i l.register
