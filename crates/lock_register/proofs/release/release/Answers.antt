-- Meets its contract. The invariant: the locks kept so far are those of the others among the first i, and from i on nothing has changed.
use native.Mathlib.Omega.{arith}
use borrow.Author.Rules.{rules}
use Rattle.lock_register.proofs.LockLaws.{keeping, drops, stays, keeps}
use Rattle.lock_register.proofs.release.release.Goals.{then-register-i, else-register-i}
use Rattle.lock_register.proofs.release.release.Goals as goal

pub loop-i-init : goal.loop-i-init
loop-i-init c =
    (search rules, keeping _ _)

pub loop-i-preserved : goal.loop-i-preserved
loop-i-preserved c =
    let kept = c.loop-i.invariant.1 in
    elim c.if-register-i.branch [
      | then-register-i w ↦ rw (w.register-is, w.kept-is) (
        search rules,
        stays _ _ _ _ _ kept _ (λ e. w.if-register-i.true e) (search rules) w.copy_lock.ensures,
      )
      | else-register-i w ↦ rw (w.register-is, w.kept-is) (search rules, drops _ _ _ _ _ kept w.if-register-i.false)
    ]

pub returns : goal.returns
returns c =
    keeps _ _ _ _ _ c.loop-i.invariant.1 (search rules) (omega arith) (search rules)
