-- Meets its contract. The invariant: the bytes of the first i words are there.
use native.Mathlib.Omega.{arith}
use mathlib.Core.Path.{◌≡◌, ◌∙◌}
use Rattle.lock_words.proofs.SourceLaws.{put_next, all_put}
use Rattle.lock_words.proofs.source.source_bytes.Goals as goal

pub loop-i-preserved : goal.loop-i-preserved
loop-i-preserved c =
    let l = c.loop-i in
    put_next c.args.source l.bytes l.i _ c.copy_from_slice.new.self c.loop-i-test.true (omega arith) l.invariant.0 l.invariant.1
    (c.copy_from_slice.ensures.after ∙ c.to_le_bytes.ensures)

pub returns : goal.returns
returns c =
    let e : c.loop-i.i ≡ 4 = omega arith in
    all_put c.args.source _ c.loop-i.invariant.0 (rw e at c.loop-i.invariant.1)
