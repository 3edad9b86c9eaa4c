-- Meets its contract: the closure computes the test.
use borrow.Author.Rules.{rules}
use borrow.Author.Tests.{tests}
use lib.Dec.{eqb}
use Rattle.std.proofs.lemmas.Iterator.{YieldsList-from_slice}
use Rattle.std.proofs.lemmas.Iterator.Search.{any_from_yields_List}
use Rattle.lock_words.specs.Words.{symbol_in}
use Rattle.lock_register.proofs.meet.symbol_among.Goals as goal

pub returns : goal.returns
returns c =
    any_from_yields_List (λ ws. eqb (symbol_in ws) c.args.symbol) _ _ c.any.result c.any.ensures.ran (YieldsList-from_slice c.args.locks.now (cc))
    (λ x b q k. search (rules, tests))
