-- Where the head lies says that its counts stand within the payload.
use native.Mathlib.Omega.{arith}
use mathlib.Core.Path.{sym}
use Rattle.evr0_head.proofs.HeadLaws.{head_ok}
use Rattle.evr0_head.proofs.head.read_checked_head.Goals as goal

pub check_counts-requires : goal.check_counts-requires
check_counts-requires c =
    let l = head_ok c.args.payload.now (sym c.in_ok-head.ensures) in (omega (arith, l.next), l.ends)
