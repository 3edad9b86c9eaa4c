-- Meets its contract. The invariant: the words before, and then the components from the cursor on, are those of the table.
use native.Mathlib.Omega.{arith}
use mathlib.Core.Path.{sym}
use Rattle.locks.proofs.KeyLaws.{begin, more, none, all}
use Rattle.locks.proofs.key.fill_parts.Goals as goal

pub loop-word-init : goal.loop-word-init
loop-word-init c = begin _ _ _ _

pub returns-in_default : goal.returns-in_default
returns-in_default c t i =
    absurd (none _ _ _ c.loop-word.word-index c.loop-word.cursor c.loop-word.word-items c.loop-word.invariant (omega arith) (sym c.in_default.ensures) t i)

pub loop-word-preserved : goal.loop-word-preserved
loop-word-preserved c =
    more _ _ _ c.loop-word.word-index c.loop-word.cursor c.loop-word.word-items c.loop-word.invariant _ _ _ (omega arith) (omega arith)
    (sym c.in-Ok.ensures) c.component_word.ensures

pub returns : goal.returns
returns c t i =
    all _ _ _ c.loop-word.word-index c.loop-word.cursor c.loop-word.word-items c.loop-word.invariant (omega arith) (omega arith) t i
