-- The invariant: as many bytes as were copied are at the front.
use mathlib.Core.Path.{◌≡◌}
use lib.ListN.{length, take}
use Rattle.byte_output.proofs.copy.Given as goal

abbrev pub invariant-loop-i : goal.invariant-loop-i
invariant-loop-i l = (length l.out ≡ length l.initial.out) × (take l.i l.out ≡ take l.i l.bytes)
