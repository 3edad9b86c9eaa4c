-- Meets its contract: as many fields as there are words, or zeros.
use native.Mathlib.Omega.{arith}
use Rattle.record_words.proofs.Laws.{runs_none, runs_all}
use Rattle.record_words.proofs.read_parents.Goals as goal

pub returns-then-saturating_sub-words : goal.returns-then-saturating_sub-words
returns-then-saturating_sub-words c =
    let a = c.args in
    runs_none a.payload.now a.at a.words.now _ (omega (arith, c.saturating_sub.ensures)) c.clear.ensures

pub put_fields-requires : goal.put_fields-requires
put_fields-requires c = omega (arith, c.saturating_sub.ensures)

pub returns : goal.returns
returns c =
    let a = c.args in
    runs_all a.payload.now a.at a.words.now _ (omega (arith, c.saturating_sub.ensures)) c.put_fields.ensures
