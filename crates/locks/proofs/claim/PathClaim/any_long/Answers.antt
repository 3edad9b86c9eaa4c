-- Meets its contract. The invariant: no path before the start is long.
use native.Mathlib.Omega.{arith}
use Rattle.locks.proofs.KeyLaws.{front_in, found, not_found}
use Rattle.locks.proofs.ClaimLaws.{short_none, long_found, short_more, short_past, short_all}
use Rattle.locks.proofs.claim.PathClaim.any_long.Goals.{in-Ok+else-path-gt16, in_default}
use Rattle.locks.proofs.claim.PathClaim.any_long.Goals as goal

pub loop-start-init : goal.loop-start-init
loop-start-init c =
    short_none _ _ _ _

pub returns-then-path-gt16 : goal.returns-then-path-gt16
returns-then-path-gt16 c =
    long_found _ _ _ _ _ c.loop-start-test.true (front_in c.in-Ok.path) (found _ _ _ _ c.in-Ok.ensures) c.if-path-gt16.true

pub loop-start-preserved : goal.loop-start-preserved
loop-start-preserved c =
    let next = c.loop-start-test.true in
    elim c.match-read_front.branch [
      | in-Ok+else-path-gt16 w ↦
          short_more _ _ _ _ _ next (front_in w.in-Ok.path) (found _ _ _ _ w.in-Ok.ensures) w.if-path-gt16.false c.loop-start.invariant
      | in_default w ↦ short_past _ _ _ _ _ next (not_found _ _ _ w.in_default.ensures)
    ]

pub returns : goal.returns
returns c =
    short_all _ _ _ _ _ (omega arith) c.loop-start.invariant
