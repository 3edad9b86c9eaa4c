-- By whether the schema is 2.
use borrow.Author.Tests.{eq-eqb, ne_eqb}
use Rattle.evr0_section.specs.Head.{span_width}
use Rattle.column_fields.proofs.table.span_of.Goals as goal

pub returns-then-schema-eq2 : goal.returns-then-schema-eq2
unfolding span_width
returns-then-schema-eq2 c =
    rw (eq-eqb _ 2 c.if-schema-eq2.true)

pub returns-else-schema-eq2 : goal.returns-else-schema-eq2
unfolding span_width
returns-else-schema-eq2 c =
    rw (ne_eqb _ 2 c.if-schema-eq2.false)
