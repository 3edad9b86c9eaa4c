-- Meets its contract. The invariant: the first i words are so many fields.
use native.Mathlib.Omega.{arith}
use Rattle.record_words.proofs.Laws.{fill_none, fill_more, fill_done}
use Rattle.record_words.proofs.put_fields.Goals as goal

pub loop-i-init : goal.loop-i-init
loop-i-init c = fill_none c.args.bytes.now c.args.at c.args.words.now

pub loop-i-preserved : goal.loop-i-preserved
loop-i-preserved c =
    rw c.le_at.ensures (fill_more c.args.bytes.now c.args.at c.loop-i.i c.loop-i.words (omega arith) c.loop-i.invariant)

pub returns : goal.returns
returns c = fill_done c.args.bytes.now c.args.at _ c.loop-i.i c.loop-i.words (omega arith) (omega arith) c.loop-i.invariant
