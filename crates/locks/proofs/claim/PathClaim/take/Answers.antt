-- Meets its contract: 66, 67, 68 in this order, and then the stores.
use native.Mathlib.Omega.{arith}
use mathlib.Core.Path.{◌≡◌, ◌∙◌}
use Rattle.lock_words.specs.Words.{held_in}
use Rattle.lock_words.proofs.WordLaws.{locks_length}
use Rattle.locks.proofs.ClaimLaws.{tried_long, tried_met, tried_full, tried_stored}
use Rattle.locks.proofs.claim.PathClaim.take.Goals as goal

pub returns-then-any_long : goal.returns-then-any_long
returns-then-any_long c =
    tried_long _ _ _ _ _ _ _ (rw c.if-any_long.true at c.any_long.ensures) c.refuse.ensures

pub returns-then-any_met : goal.returns-then-any_met
returns-then-any_met c =
    tried_met _ _ _ _ _ _ _ (rw c.if-any_long.false at c.any_long.ensures)
    (rw c.if-any_met.true at c.any_met.ensures) c.refuse-then-any_met.ensures

pub returns-then-before-self : goal.returns-then-before-self
returns-then-before-self c =
    let words = c.args.register.now in
    let e : c.held-before.result ≡ held_in words = c.held-before.ensures.all ∙ locks_length (held_in words) words in
    tried_full _ _ _ _ _ _ _ (rw c.if-any_long.false at c.any_long.ensures)
    (rw c.if-any_met.false at c.any_met.ensures) (omega (arith, c.held-before.ensures.few)) c.refuse-then-before-self.ensures

pub store-requires : goal.store-requires
store-requires c =
    let words = c.args.register.now in
    let e : c.held-before.result ≡ held_in words = c.held-before.ensures.all ∙ locks_length (held_in words) words in
    omega (arith, c.held-before.ensures.few)

pub returns : goal.returns
returns c =
    let words = c.args.register.now in
    let e : c.held-before.result ≡ held_in words = c.held-before.ensures.all ∙ locks_length (held_in words) words in
    let few = c.held-before.ensures.few in
    tried_stored _ _ _ _ _ _ _ _ _ (rw c.if-any_long.false at c.any_long.ensures)
    (rw c.if-any_met.false at c.any_met.ensures) (omega arith) (omega arith) c.store.ensures
