-- Meets its contract. The invariant: the locks kept so far are those of the others among the first i, and from i on nothing has changed.
use Prim.Native.Nat.{◌≤◌}
use Rattle.lock_register.proofs.LockLaws.{Keeping}
use Rattle.lock_register.proofs.release.release.Given as goal

abbrev pub invariant-loop-i : goal.invariant-loop-i
invariant-loop-i l = (l.kept ≤ l.i) × Keeping l.initial.register l.register l.owner l.i l.kept
