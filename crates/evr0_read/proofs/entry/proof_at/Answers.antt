-- The text lies within the part that it was read from, so its place in the payload is one of 64 bits.
use mathlib.Core.Path.{sym, ap, ◌∙◌}
use Rattle.evr0_section.specs.Proof.{proof_of}
use Rattle.evr0_read.proofs.EntryLaws.{rule_lies, place_fits}
use Rattle.evr0_read.proofs.entry.proof_at.Goals as goal

pub placed-requires : goal.placed-requires
placed-requires c =
    place_fits _ _ _ c.well_formed.0.0 (rule_lies _ (sym (c.in_ok-read.ensures ∙ ap proof_of c.tail.ensures)))
