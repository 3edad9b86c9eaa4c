-- The invariant: the rest from a word on is the same where the whole is. The last word is the same, so nothing is left at its start.
use Prim.Native.Nat.{◌*◌}
use mathlib.Core.Path.{◌≡◌}
use lib.ListN.{drop}
use Rattle.local_format.specs.Tag.{equal}
use Rattle.local_format.proofs.tag.same.Given as goal

abbrev pub invariant-loop-step : goal.invariant-loop-step
invariant-loop-step l = equal (drop (8 * l.step) l.a) (drop (8 * l.step) l.b) ≡ equal l.a l.b
