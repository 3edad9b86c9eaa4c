-- Meets its contract: each return goes along the steps of `PayloadLaws.rest_kept`.
use mathlib.Core.Path.{sym}
use Rattle.std.proofs.Common.{rules}
use Rattle.evr0_section.specs.Head.{span_width}
use Rattle.evr0_section.specs.Witness.{witness_row}
use Rattle.evr0_section.proofs.Inside.{witness_row_in}
use Rattle.evr0_tables.proofs.PayloadLaws.{next_within, rest_kept}
use Rattle.evr0_tables.proofs.payload.read_rest.Goals as goal

pub returns-in_err-parents_at : goal.returns-in_err-parents_at
returns-in_err-parents_at c =
    rw (rest_kept, ← c.in_err-parents_at.ensures) (search rules)

pub read_parents-requires : goal.read_parents-requires
read_parents-requires c =
    let width = span_width c.args.schema in (
      c.requires.0,
      next_within (witness_row width _) (λ q u. witness_row_in q width _ u) _ _ 0 _ c.requires.1 (sym c.in_ok-parents_at.ensures),
    )

pub returns-in_err-end : goal.returns-in_err-end
returns-in_err-end c =
    rw (rest_kept, ← c.in_ok-parents_at.ensures, ← c.in_err-end.ensures) (search rules)

pub returns-in_err-check : goal.returns-in_err-check
returns-in_err-check c =
    rw (rest_kept, ← c.in_ok-parents_at.ensures, ← c.in_ok-end.ensures, ← c.in_err-check.ensures) (search rules)

pub returns : goal.returns
returns c =
    rw (rest_kept, ← c.in_ok-parents_at.ensures, ← c.in_ok-end.ensures, ← c.in_ok-check.ensures)
