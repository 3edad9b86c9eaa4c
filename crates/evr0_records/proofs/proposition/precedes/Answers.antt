-- The library's order of two keys is the definition's (`keys_order`).
use mathlib.Core.Path.{ap, ap₂, ◌∙◌}
use Rattle.std.specs.Ordering.{is_lt}
use Rattle.evr0_section.specs.Proposition.{is_less, compare_keys}
use Rattle.evr0_records.specs.Maps.{key_out}
use Rattle.evr0_records.proofs.OrderLaws.{less_order, keys_order}
use Rattle.evr0_records.proofs.proposition.precedes.Goals as goal

pub returns : goal.returns
returns c =
    c.is_lt.ensures ∙ ap is_lt c.cmp.ensures ∙ less_order _
    ∙ ap is_less (keys_order (key_out c.key.result) (key_out c.key-2.result) ∙ ap₂ compare_keys c.key.ensures c.key-2.ensures)
