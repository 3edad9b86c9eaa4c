-- Meets its contract, as read_propositions does, with what is unowned as the state.
use mathlib.Core.Path.{◌≡◌}
use lib.ListN.{take, drop}
use Rattle.evr0_section.specs.Proof.{none_owned, proof_row}
use Rattle.evr0_section.proofs.Progress.{Progress}
use Rattle.evr0_head.specs.Maps.{counts_out}
use Rattle.evr0_rules.specs.Maps.{book_rules}
use Rattle.evr0_records.specs.Maps.{unowned_out}
use Rattle.evr0_tables.specs.Maps.{asked}
use Rattle.evr0_tables.proofs.TableLaws.{Stands}
use Rattle.evr0_tables.proofs.tables.read_proofs.Given as goal

abbrev pub invariant-loop-i : goal.invariant-loop-i
invariant-loop-i l = Stands (proof_row (book_rules l.rules) (counts_out l.counts)) l.payload l.counts.proofs l.at none_owned l.i l.place
    (unowned_out l.unowned) (take l.i l.starts)
    × Progress (proof_row (book_rules l.rules) (counts_out l.counts)) asked l.payload l.counts.proofs l.at none_owned l.i l.place
    (unowned_out l.unowned)
    (take l.i l.polarities)
    × (drop l.counts.proofs l.polarities ≡ drop l.counts.proofs l.initial.polarities)
