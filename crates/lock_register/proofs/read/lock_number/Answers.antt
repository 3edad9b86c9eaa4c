-- Meets its contract: the lock is there where its number is below the count.
use borrow.Author.Rules.{rules}
use mathlib.Core.List.{[]}
use Rattle.lock_register.proofs.ReadLaws.{lock_told, lock_refused}
use Rattle.lock_register.proofs.read.lock_number.Goals as goal

pub returns-in_default : goal.returns-in_default
returns-in_default c =
    lock_refused c.args.register.now _ _ c.held_locks.ensures c.in_default.ensures.lookup.0 c.refuse.ensures

pub returns : goal.returns
returns c =
    let l = c.in-Some.ensures.lookup in
    lock_told c.args.register.now _ _ c.held_locks.ensures l.3.0 _ (l.3.1 []) (search rules) c.parts.ensures
