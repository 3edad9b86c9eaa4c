-- The invariant: the entries copied are the first bytes of the part.
use mathlib.Core.Path.{◌≡◌}
use lib.ListN.{length, take}
use Rattle.lent_table.proofs.copy_bytes.Given as goal

abbrev pub invariant-loop-i : goal.invariant-loop-i
invariant-loop-i l = (length l.table ≡ length l.initial.table) × (take l.i l.table ≡ take l.i l.part)
