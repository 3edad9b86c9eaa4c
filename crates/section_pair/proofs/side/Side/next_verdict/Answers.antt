-- Meets its contract: one section is done, or the order of two keys decides.
use borrow.Author.Rules.{rules}
use mathlib.Core.Path.{ap, ap₂, ◌∙◌}
use Rattle.evr0_section.specs.Proposition.{compare_keys}
use Rattle.evr0_compare.proofs.Merge.{second_done, first_next, second_next, both_next}
use Rattle.evr0_records.specs.Maps.{key_out, order_out}
use Rattle.evr0_records.proofs.OrderLaws.{keys_order}
use Rattle.section_pair.proofs.side.Side.next_verdict.Goals as goal

pub returns-then-second-j : goal.returns-then-second-j
returns-then-second-j c xs ys v w =
    let a = c.args in second_done v w a.i a.j (search rules) c.if-second-j.true

pub returns-in-Less : goal.returns-in-Less
returns-in-Less c xs ys v w =
    let a = c.args in
    first_next v w a.i a.j (search rules) (search rules)
    (ap order_out c.cmp-order.ensures ∙ keys_order (key_out c.key_at-key.result) (key_out c.key_at.result)
    ∙ ap₂ compare_keys c.key_at-key.ensures c.key_at.ensures) (ap order_out c.in-Less.is)

pub returns-in-Greater : goal.returns-in-Greater
returns-in-Greater c xs ys v w =
    let a = c.args in
    second_next v w a.i a.j (search rules) (search rules)
    (ap order_out c.cmp-order.ensures ∙ keys_order (key_out c.key_at-key.result) (key_out c.key_at.result)
    ∙ ap₂ compare_keys c.key_at-key.ensures c.key_at.ensures) (ap order_out c.in-Greater.is)

pub returns-in-Equal : goal.returns-in-Equal
returns-in-Equal c xs ys v w =
    let a = c.args in
    both_next v w a.i a.j (search rules) (search rules)
    (ap order_out c.cmp-order.ensures ∙ keys_order (key_out c.key_at-key.result) (key_out c.key_at.result)
    ∙ ap₂ compare_keys c.key_at-key.ensures c.key_at.ensures) (ap order_out c.in-Equal.is) c.of_both.ensures
