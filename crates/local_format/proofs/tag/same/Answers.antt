-- The invariant: the rest from a word on is the same where the whole is. The last word is the same, so nothing is left at its start.
use Prim.Native.Nat.{ℕ, ◌+◌, ◌*◌}
use mathlib.Core.Path.{◌≡◌, refl, sym, ◌∙◌}
use native.Mathlib.Omega.{arith}
use Rattle.local_format.proofs.TagLaws.{unequal, word_differs, word_same, end_same}
use Rattle.local_format.proofs.tag.same.Goals as goal

pub returns-then-len-b : goal.returns-then-len-b
returns-then-len-b c =
    unequal _ _ c.if-len-b.true

pub returns-then-le_at : goal.returns-then-le_at
returns-then-le_at c =
    word_differs 8 _ _ _ (λ e. c.if-le_at.true (c.le_at.ensures ∙ e ∙ sym c.le_at-2.ensures))

pub loop-step-init : goal.loop-step-init
loop-step-init c =
    refl

pub returns-then-le_at-2 : goal.returns-then-le_at-2
returns-then-le_at-2 c =
    word_differs 8 _ _ _ (λ e. c.if-le_at-2.true (c.le_at-in-loop-step.ensures ∙ e ∙ sym c.le_at-in-loop-step-2.ensures))

pub loop-step-preserved : goal.loop-step-preserved
loop-step-preserved c =
    let at : ℕ = 8 * c.loop-step.step in
    let next : 8 * (c.loop-step.step + 1) ≡ at + 8 = omega arith in
    rw next
    (sym (word_same c.args.a.now c.args.b.now (λ k. (c.type_inv.a k).fits) (λ k. (c.type_inv.b k).fits) 8 at (omega arith) (omega arith)
    (sym c.le_at-in-loop-step.ensures ∙ c.if-le_at-2.false ∙ c.le_at-in-loop-step-2.ensures))
    ∙ c.loop-step.invariant)

pub returns : goal.returns
returns c =
    sym (end_same c.args.a.now c.args.b.now (λ k. (c.type_inv.a k).fits) (λ k. (c.type_inv.b k).fits) 8 (omega arith) (omega arith)
    (sym c.le_at.ensures ∙ c.if-le_at.false ∙ c.le_at-2.ensures) (8 * c.loop-step.step) (omega arith))
    ∙ c.loop-step.invariant
