-- The invariant: the rest from a byte on is the same where the whole is.
use mathlib.Core.Path.{◌≡◌}
use lib.ListN.{drop}
use Rattle.local_format.specs.Tag.{equal}
use Rattle.local_format.proofs.tag.same_short.Given as goal

abbrev pub invariant-loop-i : goal.invariant-loop-i
invariant-loop-i l = equal (drop l.i l.a) (drop l.i l.b) ≡ equal l.a l.b
