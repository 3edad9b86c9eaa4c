-- The invariant is where the loop stands, by `LoadLaws`: the rules that are read start at the first i places.
use mathlib.Core.Path.{◌≡◌}
use Prim.Native.Nat.{◌≤◌}
use lib.ListN.{length, take}
use Rattle.evr0_rules.proofs.LoadLaws.{Stands}
use Rattle.evr0_rules.proofs.load.rules_at.Given as goal

abbrev pub invariant-loop-i : goal.invariant-loop-i
invariant-loop-i l = Stands l.table l.count l.i l.at (take l.i l.starts) × (length l.starts ≡ 32) × (l.count ≤ 32)
