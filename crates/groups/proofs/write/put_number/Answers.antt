-- The invariant: the groups before this one are written.
use Prim.Native.Nat.{◌≤◌}
use native.Mathlib.Omega.{arith}
use lib.ListN.{length}
use Rattle.groups.specs.Groups.{groups}
use Rattle.groups.proofs.WriteLaws.{putting_first, putting_small, putting_more, putting_last}
use Rattle.groups.proofs.write.put_number.Goals as goal

pub loop-group-init : goal.loop-group-init
loop-group-init c =
    putting_first _ _ c.ranges.n.fits (omega arith) (omega arith)

pub loop-group-preserved : goal.loop-group-preserved
loop-group-preserved c =
    putting_more c.loop-group.invariant (omega (arith, c.group_count-group-end.ensures)) c.put.ensures

pub overflow_cast-left-2 : goal.overflow_cast-left-2
overflow_cast-left-2 c =
    let ends : length (groups c.args.n) ≤ c.loop-group._group = omega (arith, c.group_count-group-end.ensures) in
    record { fits = omega (arith, putting_small c.loop-group.invariant ends) }

pub returns : goal.returns
returns c =
    putting_last c.loop-group.invariant (omega (arith, c.group_count-group-end.ensures)) c.put-2.ensures
