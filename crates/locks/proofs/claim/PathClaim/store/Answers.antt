-- Meets its contract. The invariant: the locks held, and then one for each path before the start.
use native.Mathlib.Omega.{arith}
use borrow.Author.Rules.{rules}
use mathlib.Core.Path.{◌≡◌, ◌∙◌}
use Rattle.lock_words.specs.Words.{held_in}
use Rattle.lock_words.proofs.WordLaws.{locks_length}
use Rattle.locks.proofs.KeyLaws.{not_found}
use Rattle.locks.proofs.ClaimLaws.{storing, stores, stores_past, stored}
use Rattle.locks.proofs.claim.PathClaim.store.Goals.{in-Ok, in_default}
use Rattle.locks.proofs.claim.PathClaim.store.Goals as goal

pub loop-i-init : goal.loop-i-init
loop-i-init c =
    storing _ _ _ _ _ _ _

pub put_lock-requires : goal.put_lock-requires
put_lock-requires c =
    let words = c.args.register.now in
    let e : c.held-before.result ≡ held_in words = c.held-before.ensures.all ∙ locks_length (held_in words) words in
    omega arith

pub loop-i-preserved : goal.loop-i-preserved
loop-i-preserved c =
    let words = c.args.register.now in
    let e : c.held-before.result ≡ held_in words = c.held-before.ensures.all ∙ locks_length (held_in words) words in
    elim c.match-read_front.branch [
      | in-Ok w ↦
          rw w.register-is (stores _ _ _ _ _ _ _ _ c.loop-i-test.true _ (w.path_key-key.ensures _ w.in-Ok.ensures) _ c.loop-i.invariant _ _ (omega arith)
          w.put_lock.ensures)
      | in_default w ↦ rw w.register-is (stores_past _ _ _ _ _ _ _ _ c.loop-i-test.true (not_found _ _ _ w.in_default.ensures) _ c.loop-i.invariant)
    ]

pub returns : goal.returns
returns c =
    let words = c.args.register.now in
    let e : c.held-before.result ≡ held_in words = c.held-before.ensures.all ∙ locks_length (held_in words) words in
    stored _ _ _ _ _ _ _ _ _ _ c.loop-i.invariant (omega arith) (omega arith) (omega arith) (search rules)
