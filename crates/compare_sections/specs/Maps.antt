-- From the code's structs and enums to the definitions' types.
use Rattle.std.specs.Prelude.{◌≡◌, length, Result, Ok, Err}
use Rattle.local_format.specs.Refusal as of_refusal
use Rattle.local_format.specs.Maps.{refusal_out}
use Rattle.evr0_compare.specs.Compare as of
use Rattle.authorised_table.specs.Answer.{Lent}
use Rattle.section_pair.specs.Maps.{totals_out}
use Rattle.section_pair.specs.declared.totals.Totals.{Totals}
use Rattle.compare_sections.specs.declared.compare.Fault.{Fault}
use Rattle.compare_sections.specs.declared.compare.Fault.TheVariants.{Rules, First, Second, Pair}
use Rattle.compare_sections.specs.declared.tables.Found as code
use Rattle.compare_sections.specs.declared.tables.Tables.{Tables}
use Rattle.compare_sections.specs.Answer.{tables_of}
use Rattle.compare_sections.specs.Parts.{Found}

abbrev pub comparison_out : Result Totals Fault → of.Answer of.Tally
comparison_out (Ok t) = of.held (totals_out t)
comparison_out (Err (Rules r)) = of.rules_refused (refusal_out r)
comparison_out (Err (First r)) = of.first_refused (refusal_out r)
comparison_out (Err (Second r)) = of.second_refused (refusal_out r)
comparison_out (Err (Pair r)) = of.pair_refused (refusal_out r)

abbrev pub found_out : code.Found → Found
found_out f = record { end = f.end; count = f.count }

abbrev pub lent_out : Tables → Lent
lent_out t = tables_of t.propositions.now t.proofs.now t.depths.now t.marks.now t.authorised.now

-- they are the same places of memory, of the same lengths
pub record SameTables (old new : Tables) : Type 0 where
  pub propositions : new.propositions.ghost_name ≡ old.propositions.ghost_name
  pub proofs : new.proofs.ghost_name ≡ old.proofs.ghost_name
  pub depths : new.depths.ghost_name ≡ old.depths.ghost_name
  pub marks : new.marks.ghost_name ≡ old.marks.ghost_name
  pub authorised : new.authorised.ghost_name ≡ old.authorised.ghost_name
  pub propositions_room : length new.propositions.now ≡ length old.propositions.now
  pub proofs_room : length new.proofs.now ≡ length old.proofs.now
  pub depths_room : length new.depths.now ≡ length old.depths.now
  pub marks_room : length new.marks.now ≡ length old.marks.now
  pub authorised_room : length new.authorised.now ≡ length old.authorised.now

-- whosever it is
abbrev pub refusal_in : Fault → of_refusal.Refusal
refusal_in (Rules r) = refusal_out r
refusal_in (First r) = refusal_out r
refusal_in (Second r) = refusal_out r
refusal_in (Pair r) = refusal_out r
