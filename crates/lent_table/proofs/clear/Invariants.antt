-- Meets its contract. The invariant: the entries that the steps have passed are zeros, where they are there.
use Rattle.std.proofs.Common.{take, length, replicate, ◌≡◌}
use Rattle.lent_table.proofs.clear.Given as goal

abbrev pub invariant-loop-i : goal.invariant-loop-i
invariant-loop-i g l = (length l.table ≡ length l.initial.table) × (take l.i l.table ≡ take (length l.table) (replicate l.i g.T.Zero.ZERO))
