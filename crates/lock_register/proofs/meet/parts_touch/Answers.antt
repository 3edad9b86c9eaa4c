-- Meets its contract. The invariant: all words from k on are the same in the bits that count.
use native.Mathlib.Omega.{arith}
use Prim.Native.Nat.{◌-◌}
use Rattle.lock_register.proofs.MeetLaws.{parts_differ, parts_agree}
use Rattle.lock_register.proofs.meet.parts_touch.Goals as goal

pub returns-then-lock-k : goal.returns-then-lock-k
returns-then-lock-k c =
    parts_differ _ _ c.told-lock c.told-key (c.loop-k.k - 1) (omega arith) (omega arith) (λ d. omega arith)

pub returns : goal.returns
returns c =
    parts_agree _ _ c.told-lock c.told-key (λ j h i. c.loop-k.invariant j (omega arith) i)
