-- From four bytes on, the first four and the last four leave nothing between them; below, the rest from a byte on is the same where the whole is.
use Prim.Native.Nat.{◌+◌}
use mathlib.Core.Path.{◌≡◌, sym, ◌∙◌}
use native.Mathlib.Omega.{arith}
use Rattle.local_format.proofs.FieldLaws.{le_1}
use Rattle.local_format.proofs.TagLaws.{by_two, word_differs, word_same, ended}
use Rattle.local_format.proofs.tag.same_short.Goals as goal

pub returns-then-len-ge4 : goal.returns-then-len-ge4
returns-then-len-ge4 c =
    rw (c.le_at.ensures, c.le_at-then-len-ge4.ensures, c.le_at-then-len-ge4-2.ensures, c.le_at-then-len-ge4-3.ensures)
    (by_two c.args.a.now c.args.b.now (λ k. (c.type_inv.a k).fits) (λ k. (c.type_inv.b k).fits) 4 c.requires.0 (omega arith) (omega arith))

pub returns-then-a-i : goal.returns-then-a-i
returns-then-a-i c =
    word_differs 1 c.args.a.now c.args.b.now c.loop-i.i
    (λ e. c.if-a-i.true (le_1 c.args.a.now c.loop-i.i ∙ e ∙ sym (le_1 c.args.b.now c.loop-i.i)))

pub returns : goal.returns
returns c =
    sym (ended c.args.a.now c.args.b.now (λ k. (c.type_inv.a k).fits) (λ k. (c.type_inv.b k).fits) c.loop-i.i (omega arith) (omega arith))
    ∙ c.loop-i.invariant

pub loop-i-preserved : goal.loop-i-preserved
loop-i-preserved c =
    sym (word_same c.args.a.now c.args.b.now (λ k. (c.type_inv.a k).fits) (λ k. (c.type_inv.b k).fits) 1 c.loop-i.i (omega arith) (omega arith)
    (sym (le_1 c.args.a.now c.loop-i.i) ∙ c.if-a-i.false ∙ le_1 c.args.b.now c.loop-i.i))
    ∙ c.loop-i.invariant
