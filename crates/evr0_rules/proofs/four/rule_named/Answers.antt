-- The names are compared in the definition's order.
use Rattle.evr0_rules.proofs.FourLaws.{is_pos, is_neg, is_join, is_op, is_none}
use Rattle.evr0_rules.proofs.four.rule_named.Goals as goal

pub returns-then-same : goal.returns-then-same
returns-then-same c = is_pos _ (rw (← c.same.ensures) c.if-same.true)

pub returns-then-same-2 : goal.returns-then-same-2
returns-then-same-2 c = is_neg _ (rw (← c.same.ensures) c.if-same.false) (rw (← c.same-2.ensures) c.if-same-2.true)

pub returns-then-same-3 : goal.returns-then-same-3
returns-then-same-3 c =
    is_join _ (rw (← c.same.ensures) c.if-same.false) (rw (← c.same-2.ensures) c.if-same-2.false)
    (rw (← c.same-3.ensures) c.if-same-3.true)

pub returns-then-same-4 : goal.returns-then-same-4
returns-then-same-4 c =
    is_op _ (rw (← c.same.ensures) c.if-same.false) (rw (← c.same-2.ensures) c.if-same-2.false)
    (rw (← c.same-3.ensures) c.if-same-3.false)
    (rw (← c.same-4.ensures) c.if-same-4.true)

pub returns : goal.returns
returns c =
    is_none _ (rw (← c.same.ensures) c.if-same.false) (rw (← c.same-2.ensures) c.if-same-2.false)
    (rw (← c.same-3.ensures) c.if-same-3.false)
    (rw (← c.same-4.ensures) c.if-same-4.false)
