-- Meets its contract: the same, and the part where its number is below the lock's.
use native.Mathlib.Omega.{arith}
use borrow.Author.Rules.{rules}
use mathlib.Core.List.{[]}
use Rattle.lock_register.proofs.ReadLaws.{part_told, part_refused, none_refused}
use Rattle.lock_register.proofs.read.lock_part.Goals as goal

pub returns-in_default : goal.returns-in_default
returns-in_default c =
    none_refused c.args.register.now _ _ c.held_locks.ensures c.in_default.ensures.lookup.0 c.refuse.ensures c.args.part

pub returns-then-parts-part : goal.returns-then-parts-part
returns-then-parts-part c =
    let l = c.in-Some.ensures.lookup in
    part_refused c.args.register.now _ _ c.held_locks.ensures l.3.0 _ (l.3.1 []) (search rules) _ c.parts.ensures (omega arith) c.refuse-then-parts-part.ensures

pub returns : goal.returns
returns c =
    let l = c.in-Some.ensures.lookup in
    part_told c.args.register.now _ _ c.held_locks.ensures l.3.0 _ (l.3.1 []) (search rules) _ c.parts.ensures (omega arith) c.from.ensures
