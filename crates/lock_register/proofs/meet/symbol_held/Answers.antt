-- Meets its contract: the eights and those behind them are the locks that are held.
use borrow.Author.Rules.{rules}
use mathlib.Core.Path.{◌∙◌}
use lib.Dec.{eqb}
use Rattle.lock_words.specs.Words.{symbol_in}
use Rattle.lock_register.proofs.MeetLaws.{any_symbol}
use Rattle.lock_register.proofs.EightLaws.{found, not_found}
use Rattle.lock_register.proofs.meet.symbol_held.Goals as goal

pub returns-then-any : goal.returns-then-any
returns-then-any c =
    let held = c.held_locks.result.now in
    let given = c.chunks_exact-eights.ensures in
    found (λ ws. eqb (symbol_in ws) c.args.symbol) held _ _ _ c.any.result c.any.ensures.ran given.size given.rest (λ x b q k. search rules) c.if-any.true
    ∙ any_symbol c.args.register.now held c.held_locks.ensures c.args.symbol

pub returns-else-any : goal.returns-else-any
returns-else-any c =
    let held = c.held_locks.result.now in
    let given = c.chunks_exact-eights.ensures in
    c.symbol_among.ensures
    ∙ not_found (λ ws. eqb (symbol_in ws) c.args.symbol) held _ _ _ c.any.result c.any.ensures.ran given.size given.rest (λ x b q k. search rules)
    c.if-any.false c.remainder.result.now c.remainder.ensures given.remainder
    ∙ any_symbol c.args.register.now held c.held_locks.ensures c.args.symbol
