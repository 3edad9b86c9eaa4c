-- `last_two` reads the last two bytes of a character, whatever the bits before them are, from 1 on.
use native.Mathlib.Omega.{arith}
use Rattle.utf8.proofs.CharLaws.{later_more}
use Rattle.utf8.proofs.last_two.Goals as goal

pub returns : goal.returns
returns c =
    λ p h. later_more _ _ 0x80 0xBF p c.in_ok-later.ensures (c.last.ensures _ (omega arith))
