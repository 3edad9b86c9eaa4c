-- Meets its contract. The invariant is where the loop stands, by `TableLaws`; the starts are the table's first i entries.
use lib.ListN.{length, take}
use Rattle.evr0_section.specs.Proposition.{first, proposition_row}
use Rattle.evr0_tables.specs.Maps.{before_in}
use Rattle.evr0_tables.proofs.TableLaws.{Stands}
use Rattle.evr0_tables.proofs.tables.read_propositions.Given as goal

abbrev pub invariant-loop-start : goal.invariant-loop-start
invariant-loop-start l =
    Stands proposition_row l.payload (length l.start-items) l.at first l.start-index l.place (before_in l.payload l.before) (take l.start-index l.start-items)
