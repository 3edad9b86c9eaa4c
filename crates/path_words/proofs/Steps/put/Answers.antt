-- The words of the components before are written, and the rest follows.
use Rattle.std.proofs.Common.{arith, ap, sym}
use Rattle.path_words.specs.Words.{Step}
use Rattle.path_words.proofs.Laws.{put_first, put_more, put_refused, put_last}
use Rattle.path_words.proofs.Steps.put.Goals as goal

pub loop-word-init : goal.loop-word-init
loop-word-init c = put_first _ _ _ _

pub returns-in_err-value : goal.returns-in_err-value
returns-in_err-value c =
    rw c.from_residual.ensures (record {
      all = put_refused _ _ _ c.loop-word.word-index c.loop-word.cursor c.loop-word.word-items c.loop-word.invariant (omega arith)
          (ap (λ (s : Step). s.whole) (sym c.in_err-value.ensures));
      puts = λ next e. absurd (cc);
    })

pub loop-word-preserved : goal.loop-word-preserved
loop-word-preserved c =
    put_more _ _ _ c.loop-word.word-index c.loop-word.cursor c.loop-word.word-items c.loop-word.invariant (omega arith) (omega arith) _ _ c.in_ok-value.ensures

pub returns : goal.returns
returns c =
    let done = put_last _ _ _ c.loop-word.word-index c.loop-word.cursor c.loop-word.word-items c.loop-word.invariant (omega arith) (omega arith) in
    record { all = done.0; puts = λ next _. done.1 }
