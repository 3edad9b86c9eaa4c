-- Meets its contract: two fields of 8 bytes, or two of 4.
use mathlib.Core.Path.{◌≡◌}
use Rattle.evr0_section.specs.Head.{span_width}
use Rattle.evr0_section.proofs.Schemas.{wide, narrow}
use Rattle.record_words.proofs.Laws.{wide_span, narrow_span}
use Rattle.record_words.proofs.put_span.Goals as goal

pub returns-then-schema-eq2 : goal.returns-then-schema-eq2
returns-then-schema-eq2 c =
    let ends-8 : span_width c.args.schema ≡ 8 = wide c.if-schema-eq2.true in
    rw ends-8 (wide_span c.args.bytes.now c.args.at c.args.words.now c.requires.1 c.le_at.ensures c.le_at-then-schema-eq2.ensures)

pub returns-else-schema-eq2 : goal.returns-else-schema-eq2
returns-else-schema-eq2 c =
    let ends-4 : span_width c.args.schema ≡ 4 = narrow c.if-schema-eq2.false in
    rw (ends-4, ← narrow_span _ _, ← c.requires.1) c.put_fields.ensures
