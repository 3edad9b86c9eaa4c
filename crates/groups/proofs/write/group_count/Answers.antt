-- Meets its contract: the highest set bit is where the leading zeros end.
use mathlib.Core.Path.{refl}
use native.Mathlib.Omega.{arith}
use lib.Count.{leading_le}
use Rattle.groups.specs.Groups.{groups_in}
use Rattle.groups.proofs.GroupLaws.{group_count_lem}
use Rattle.groups.proofs.write.group_count.Goals as goal

pub returns-then-n-eq0 : goal.returns-then-n-eq0
unfolding groups_in
returns-then-n-eq0 c =
    rw c.if-n-eq0.true refl

pub overflow_sub-result : goal.overflow_sub-result
overflow_sub-result c =
    omega (arith, leading_le 64 c.args.n)

pub returns : goal.returns
returns c =
    let n = c.args.n in
    omega (arith, leading_le 64 n, group_count_lem n (omega (arith, c.if-n-eq0.false)) c.ranges.n.fits)
