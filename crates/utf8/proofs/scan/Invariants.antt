-- `scan` keeps what it has passed (`Passed`): each character that is read adds one and its mark.
use Prim.Native.Nat.{◌-◌}
use lib.ListN.{length}
use Rattle.utf8.proofs.ScanLaws.{Passed}
use Rattle.utf8.proofs.scan.Given as goal

abbrev pub invariant-loop-i : goal.invariant-loop-i
invariant-loop-i l = Passed l.bytes l.i l.chars l.control

abbrev pub decreases-loop-i : goal.decreases-loop-i
decreases-loop-i l = length l.bytes - l.i
