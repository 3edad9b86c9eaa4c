-- Meets its contract: symbol and parts, then owner and write, and the source set last.
use native.Mathlib.Omega.{arith}
use mathlib.Core.Path.{sym, ◌∙◌}
use Rattle.lock_register.proofs.MeetLaws.{other_symbol, own, reads as borrows, other_parts, decided}
use Rattle.lock_register.proofs.meet.meets.Goals.{else-lock-eq0-via-then-lock-eq0+else-key-eq0, else-lock-eq0-via-else-lock-eq0}
use Rattle.lock_register.proofs.meet.meets.Goals as goal

pub returns-then-lock-key : goal.returns-then-lock-key
returns-then-lock-key c =
    other_symbol _ _ (λ e. omega arith)

pub returns-then-not-parts_touch : goal.returns-then-not-parts_touch
returns-then-not-parts_touch c =
    other_parts _ _ (sym c.parts_touch.ensures ∙ c.if-not-parts_touch.true)

pub returns-then-lock-key-2 : goal.returns-then-lock-key-2
returns-then-lock-key-2 c =
    own _ _ (omega arith)

pub returns-then-key-eq0 : goal.returns-then-key-eq0
returns-then-key-eq0 c =
    borrows _ _ (omega arith) (omega arith)

pub returns : goal.returns
returns c =
    c.same_source.ensures
    ∙ decided _ _ (λ e. omega arith)
    (λ p q. elim c.else-lock-eq0.branch [
      | else-lock-eq0-via-then-lock-eq0+else-key-eq0 w ↦ w.if-key-eq0.false q
      | else-lock-eq0-via-else-lock-eq0 w ↦ w.if-lock-eq0.false p
    ]) (omega arith)
    (sym c.parts_touch.ensures ∙ c.if-not-parts_touch.false)
