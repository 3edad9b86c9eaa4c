-- Meets its contract. The invariant: no path before the start is long.
use lib.ListN.{length}
use Rattle.locks.proofs.ClaimLaws.{Short}
use Rattle.locks.proofs.claim.PathClaim.any_long.Given as goal

abbrev pub invariant-loop-start : goal.invariant-loop-start
invariant-loop-start l = Short l.self.header_rev l.self.code.now l.self.starts.now (length l.self.starts.now) l.start-index
