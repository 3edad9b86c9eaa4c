-- The definition's steps.
use Rattle.std.proofs.Common.{rules}
use Rattle.derivation.specs.Pass.{depth_of}
use Rattle.evr0_pass.proofs.pass.Tables.depth_of.Goals as goal

pub returns-in_err-deepest : goal.returns-in_err-deepest
unfolding depth_of
returns-in_err-deepest c rs rule =
    rw (← c.in_err-deepest.ensures rs rule) (search rules)

pub returns-in_err-check : goal.returns-in_err-check
unfolding depth_of
returns-in_err-check c rs rule =
    rw (← c.in_ok-deepest.ensures rs rule, ← c.in_err-check.ensures) (search rules)

pub returns-in_err-witnesses_from : goal.returns-in_err-witnesses_from
unfolding depth_of
returns-in_err-witnesses_from c rs rule =
    rw (← c.in_ok-deepest.ensures rs rule, ← c.in_ok-check.ensures, ← c.in_err-witnesses_from.ensures rs rule) (search rules)

pub returns : goal.returns
unfolding depth_of
returns c rs rule =
    rw (← c.in_ok-deepest.ensures rs rule, ← c.in_ok-check.ensures, ← c.in_ok-witnesses_from.ensures rs rule) (search rules)
