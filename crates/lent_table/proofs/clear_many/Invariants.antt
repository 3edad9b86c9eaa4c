-- Meets its contract. The invariant: the entries that the loop has passed are zeros.
use Rattle.std.proofs.Common.{take, replicate, ◌≡◌}
use Rattle.lent_table.proofs.clear_many.Given as goal

abbrev pub invariant-loop-entry : goal.invariant-loop-entry
invariant-loop-entry g l = take l.entry-index l.entry-items ≡ replicate l.entry-index g.T.Zero.ZERO
