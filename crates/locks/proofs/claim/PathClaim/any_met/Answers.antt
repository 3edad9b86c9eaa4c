-- Meets its contract. The invariant: no path before the start meets a lock.
use native.Mathlib.Omega.{arith}
use mathlib.Core.Path.{sym, ◌∙◌}
use Rattle.locks.proofs.KeyLaws.{front_in, found, not_found}
use Rattle.locks.proofs.ClaimLaws.{free_none, met_found, free_other, free_more, free_past, free_all}
use Rattle.locks.proofs.claim.PathClaim.any_met.Goals.{in-Ok+then-symbol_held+else-hindered, in-Ok+else-symbol_held, in_default}
use Rattle.locks.proofs.claim.PathClaim.any_met.Goals as goal

pub loop-start-init : goal.loop-start-init
loop-start-init c =
    free_none _ _ _ _ _ _ _

pub returns-then-hindered : goal.returns-then-hindered
returns-then-hindered c =
    met_found _ _ _ _ _ _ c.args.register.now _ c.loop-start-test.true _ (c.path_key-key.ensures _ c.in-Ok.ensures)
    (sym c.hindered.ensures ∙ c.if-hindered.true)

pub loop-start-preserved : goal.loop-start-preserved
loop-start-preserved c =
    let words = c.args.register.now in
    let next = c.loop-start-test.true in
    let free = c.loop-start.invariant in
    elim c.match-read_front.branch [
      | in-Ok+then-symbol_held+else-hindered w ↦
          free_more _ _ _ _ _ _ words _ next _ (w.path_key-key.ensures _ w.in-Ok.ensures) (sym w.hindered.ensures ∙ w.if-hindered.false) free
      | in-Ok+else-symbol_held w ↦
          free_other _ _ _ _ _ _ words _ next (front_in w.in-Ok.path) (found _ _ _ _ w.in-Ok.ensures)
          (sym w.symbol_held.ensures ∙ w.if-symbol_held.false) free
      | in_default w ↦ free_past _ _ _ _ _ _ words _ next (not_found _ _ _ w.in_default.ensures)
    ]

pub returns : goal.returns
returns c =
    free_all _ _ _ _ _ _ _ _ (omega arith) c.loop-start.invariant
