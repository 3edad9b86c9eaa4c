-- Meets its contract. The invariant: the words of the records before are written, and the rest follows.
use Prim.Native.Nat.{◌+◌, ◌-◌}
use mathlib.Core.Path.{◌≡◌, refl, sym, ◌∙◌}
use native.Mathlib.Omega.{arith}
use borrow.Rule.Slice.PartMut.{put_mid}
use lib.ListN.{length, get_or}
use Rattle.record_words.proofs.Laws.{fill_first, fill_cut, fill_short, fill_on, fill_end, leaves_none, leaves_all}
use Rattle.record_words.proofs.read_all.Goals as goal

pub loop-start-init : goal.loop-start-init
loop-start-init g c = (omega arith, fill_first _ _ _ _)

pub returns-then-words-to : goal.returns-then-words-to
returns-then-words-to g c =
    let a = c.args in
    let sized = g.met.R.Record.sized a.kind.now a.bytes.now (get_or a.starts.now c.loop-start.start-index 0) in
    leaves_none _ _ _ _ _
    (fill_short _ _ _ c.loop-start.start-index c.loop-start.to c.loop-start.words c.loop-start.invariant.1 a.words.now (omega arith)
    (omega arith) (omega (arith, sized, c.count-size.ensures, c.loop-start.auto.words)))
    (rw c.loop-start.auto.words at c.clear.ensures)

pub returns-then-not-put : goal.returns-then-not-put
returns-then-not-put g c =
    let to = c.loop-start.to in
    let size : length (put_mid to (to + c.count-size.result - to) c.loop-start.words c.put.new.words) ≡ length c.args.words.now =
    omega (arith, c.put.auto.words, c.loop-start.auto.words) in
    leaves_none _ _ _ _ _
    (fill_cut _ _ _ c.loop-start.start-index c.loop-start.to c.loop-start.words c.loop-start.invariant.1 c.args.words.now (omega arith)
    (sym c.if-not-put.ensures.whole))
    (rw size at c.clear-then-not-put.ensures)

pub loop-start-preserved : goal.loop-start-preserved
loop-start-preserved g c =
    let a = c.args in
    let sized = g.met.R.Record.sized a.kind.now a.bytes.now (get_or a.starts.now c.loop-start.start-index 0) in (
      omega (arith, c.put.auto.words),
      fill_on _ _ _ c.loop-start.start-index c.loop-start.to c.loop-start.words c.loop-start.invariant.1 _ _ _ (omega arith)
          (sym c.if-not-put.ensures.whole) (c.if-not-put.ensures.puts refl) (sized ∙ sym c.count-size.ensures) c.loop-start.invariant.0,
    )

pub returns : goal.returns
returns g c =
    let a = c.args in
    let done = fill_end _ _ _ c.loop-start.start-index c.loop-start.to c.loop-start.words c.loop-start.invariant.1 a.words.now
    (omega arith) (omega arith) c.loop-start.auto.words
    in
    leaves_all _ _ _ _ c.loop-start.to c.loop-start.words _ c.loop-start.auto.words done.0 done.1 c.clear_from.ensures
