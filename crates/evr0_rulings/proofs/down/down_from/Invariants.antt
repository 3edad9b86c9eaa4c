-- Meets its contract. The invariant: in an accepted section the way down has reached a proof with the moves made.
use Prim.Native.Nat.{◌-◌, ◌≤◌, ◌<◌}
use mathlib.Core.Path.{◌≡◌}
use lib.ListN.{length}
use Rattle.evr0_section.specs.Section.{Section}
use Rattle.evr0_rulings.specs.Held.{Held}
use Rattle.evr0_rulings.proofs.DownLaws.{Reached}
use Rattle.evr0_rulings.proofs.down.down_from.Given as goal

abbrev pub invariant-loop-proof : goal.invariant-loop-proof
invariant-loop-proof l = (l.moves ≤ l.limit)
    × ((d : Section) → Held l.payload l.starts d → l.cells ≡ d.tables.witnesses.next → l.from.0 < length l.starts
    → Reached l.starts d l.limit l.from.0 l.reached.0 l.moves)

abbrev pub decreases-loop-proof : goal.decreases-loop-proof
decreases-loop-proof l = l.limit - l.moves
