-- `last` reads the last byte of a character, whatever the bits before it are, from 3 on.
use native.Mathlib.Omega.{arith}
use Rattle.utf8.proofs.CharLaws.{no_control, later_char}
use Rattle.utf8.proofs.last.Goals as goal

pub returns : goal.returns
returns c =
    λ p h. later_char _ _ 0x80 0xBF p c.in_ok-next.ensures (no_control _ (omega arith))
