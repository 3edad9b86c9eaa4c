-- By the path that was read.
use Rattle.path_words.proofs.OpeningLaws.{both, opened, opened_ends, ends_told, is_closed, is_read}
use Rattle.path_words.proofs.slow_opening.Goals as goal

pub returns-in_err-path : goal.returns-in_err-path
returns-in_err-path c =
    rw c.from_residual.ensures (record {
      words = is_closed _ _ _ c.read_path.result c.read_path.ensures c.in_err-path.ensures.value;
      ends = λ o e. absurd (cc);
    })

pub returns : goal.returns
returns c =
    let r = is_read _ _ _ c.read_path.result c.read_path.ensures c.in_ok-path.ensures.value in
    record {
      words = opened _ _ _ r (both _ c.numbered-number.ensures.event c.numbered-number.ensures.site) c.event_kind.ensures;
      ends = λ o e. ends_told _ _ _ e (opened_ends _ _ _ r c.event_kind.ensures);
    }
