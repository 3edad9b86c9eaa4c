-- The invariant: what was written and counted, with what is left, makes the whole.
use Prim.Native.Nat.{◌+◌, ◌-◌}
use mathlib.Core.Path.{◌≡◌}
use lib.ListN.{length}
use Rattle.section_pair.proofs.ListLaws.{Kept}
use Rattle.section_pair.proofs.list.list.Given as goal

abbrev pub invariant-loop-i : goal.invariant-loop-i
invariant-loop-i l = (l.total ≡ length l.first.starts.now + length l.second.starts.now)
    × Kept l.first.payload.now l.first.starts.now l.first.flags.now l.second.payload.now l.second.starts.now l.second.flags.now l.initial.verdicts
    l.i l.j l.entries l.agreed l.verdicts

abbrev pub decreases-loop-i : goal.decreases-loop-i
decreases-loop-i l = l.total - (l.i + l.j)
