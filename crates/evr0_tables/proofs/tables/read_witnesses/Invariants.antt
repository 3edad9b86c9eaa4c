-- Meets its contract, as read_propositions does, with the next witness's number as the state; no starts are kept.
use Prim.Native.Nat.{ℕ}
use mathlib.Core.List.{List}
use Rattle.evr0_section.specs.Head.{span_width}
use Rattle.evr0_section.specs.Witness.{witness_row}
use Rattle.evr0_head.specs.Maps.{counts_out}
use Rattle.evr0_tables.proofs.TableLaws.{Stands}
use Rattle.evr0_tables.proofs.tables.read_witnesses.Given as goal

abbrev pub invariant-loop-number : goal.invariant-loop-number
invariant-loop-number l = (xs : List ℕ) × Stands (witness_row (span_width l.schema) (counts_out l.counts)) l.payload l.counts.witnesses l.at
    0 l.number l.place l.number xs
