-- By what stands in front of the path's components.
use Rattle.std.proofs.Common.{arith, refl, ap, ◌∙◌}
use Rattle.std.specs.Prelude.{Some}
use Rattle.local_format.specs.Out.{ok}
use Rattle.path_words.specs.Maps.{opening_is}
use Rattle.path_words.proofs.Laws.{opening_short, opening_refused, opening_many, opening_ends, opening_puts, next_told, words_told}
use Rattle.path_words.proofs.put_path.Goals as goal

pub returns-then-words-size-clause-many : goal.returns-then-words-size-clause-many
returns-then-words-size-clause-many c =
    opening_short _ _ _ (opening_is (Some c.in_ok-opening.opening)) c.in_ok-opening.ensures.words _ (omega arith)

pub returns-in_err-next-clause-many : goal.returns-in_err-next-clause-many
returns-in_err-next-clause-many c =
    rw c.from_residual-in_err-next.ensures
    (opening_refused _ _ _ (opening_is (Some c.in_ok-opening.opening)) c.in_ok-opening.ensures.words _ (omega arith) c.in_err-next.ensures.all _)

pub returns-clause-many : goal.returns-clause-many
returns-clause-many c =
    opening_many _ _ _ (opening_is (Some c.in_ok-opening.opening)) c.in_ok-opening.ensures.words _ (omega arith) _ c.in_ok-next.ensures.all refl _ (omega arith)

pub returns-clause-next : goal.returns-clause-next
returns-clause-next c p e =
    opening_ends _ _ _ (opening_is (Some c.in_ok-opening.opening)) c.in_ok-opening.ensures.words _ (omega arith) _ c.in_ok-next.ensures.all
    (c.in_ok-opening.ensures.ends c.in_ok-opening.opening refl)
    ∙ ap ok (next_told e)

pub returns-clause-puts : goal.returns-clause-puts
returns-clause-puts c p e =
    opening_puts _ _ _ (opening_is (Some c.in_ok-opening.opening)) c.in_ok-opening.ensures.words _ (omega arith) _ c.in_ok-next.ensures.all refl
    (c.in_ok-next.ensures.puts c.in_ok-next.next refl) c.args.words.now _ (omega arith) (omega arith)

pub returns-clause-few : goal.returns-clause-few
returns-clause-few c p e = let w = words_told e in omega (arith, w)
