-- What is no rule's name is unknown.
use mathlib.Core.Path.{sym}
use Rattle.local_format.specs.Maps.{span_out}
use Rattle.evr0_records.proofs.proof.read_rule.Goals as goal

pub returns : goal.returns
returns c =
    rw (← c.in_ok-text.ensures, c.in_default.ensures (span_out c.in_ok-text.text) (sym c.in_ok-text.ensures))
