-- The words of i paths are written, and the rest follows.
use Rattle.std.proofs.Common.{◌≡◌, length, arith, refl, ap, ◌∙◌, ℕ}
use mathlib.Core.List.{List, ◌++◌}
use lib.ListN.{get_or, take}
use Rattle.record_words.proofs.Laws.{last_size}
use Rattle.path_words.specs.Words.{path_words}
use Rattle.path_words.proofs.Laws.{one_some, laid_front, put_front, put_kept, fill_first, fill_stop, fill_on, fill_end}
use Rattle.path_words.proofs.read_paths.Goals as goal

pub loop-i-init : goal.loop-i-init
loop-i-init c =
    fill_first _ _ _

pub returns-in_default : goal.returns-in_default
returns-in_default c =
    let inv = c.loop-i.invariant in
    let p = rw (last_size c.loop-i.words c.loop-i.to) at c.in_default.ensures.many in
    fill_stop _ _ c.loop-i.i c.loop-i.to _ c.loop-i.words inv _ (omega arith) _ p (put_kept c.loop-i.to _ c.loop-i.words _ inv.within)
    (omega (arith, c.put_path.auto.words)) c.clear_from.ensures

pub overflow_add-to : goal.overflow_add-to
overflow_add-to c =
    let p = one_some (path_words c.args.header_rev c.args.code.now (get_or c.args.starts.now c.loop-i.i 0)) _ _ c.in-Some.ensures.many in
    omega (arith, p.within, c.loop-i.invariant.within)

pub loop-i-preserved : goal.loop-i-preserved
loop-i-preserved c =
    let inv = c.loop-i.invariant in
    let p = rw (last_size c.loop-i.words c.loop-i.to) at c.in-Some.ensures.many in
    let one = one_some (path_words c.args.header_rev c.args.code.now (get_or c.args.starts.now c.loop-i.i 0)) _ _ p in
    fill_on _ _ c.loop-i.i c.loop-i.to _ c.loop-i.words inv _ (omega arith) c.in-Some.field-0.words p (omega (arith, c.put_path.auto.words))
    (put_front c.loop-i.to _ c.loop-i.words _ inv.within c.in-Some.field-0.words (omega (arith, one.within, c.put_path.auto.words))
    ∙ ap (λ (ws : List ℕ). take c.loop-i.to c.loop-i.words ++ ws) (laid_front _ one.many (c.in-Some.ensures.puts c.in-Some.field-0 refl)))

pub returns : goal.returns
returns c =
    let all : length c.args.starts.now ≡ c.loop-i.i = omega arith in
    rw all (fill_end _ _ c.loop-i.i c.loop-i.to _ c.loop-i.words c.loop-i.invariant _ (omega arith) c.clear_from-2.ensures)
