-- The invariant: the groups before this one are written.
use Rattle.groups.proofs.WriteLaws.{Putting}
use Rattle.groups.proofs.write.put_number.Given as goal

abbrev pub invariant-loop-group : goal.invariant-loop-group
invariant-loop-group l = Putting l.n l.initial.out l.out l.left l._group
