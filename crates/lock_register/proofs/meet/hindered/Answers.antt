-- Meets its contract: the chain gives the locks that are held, and the closure computes the test.
use borrow.Author.Rules.{rules}
use borrow.Author.Tests.{tests}
use mathlib.Core.Path.{◌∙◌}
use Rattle.std.proofs.lemmas.Iterator.{YieldsList-from_slice}
use Rattle.std.proofs.lemmas.Iterator.Search.{any_from_yields_List}
use Rattle.lock_rules.specs.Lock.{hinders}
use Rattle.lock_rules.specs.Source.{same_root}
use Rattle.lock_words.specs.Words.{lock_in}
use Rattle.lock_register.proofs.MeetLaws.{any_held}
use Rattle.lock_register.proofs.meet.hindered.Goals as goal

pub returns : goal.returns
returns c =
    let held = c.held_locks.result.now in
    let key = lock_in c.args.key.now in
    any_from_yields_List (λ ws. hinders same_root (lock_in ws) key) _ _ c.any.result c.any.ensures.ran (YieldsList-from_slice held (cc))
    (λ x b q k. search (rules, tests))
    ∙ any_held c.args.register.now held c.held_locks.ensures (λ l. hinders same_root l key)
