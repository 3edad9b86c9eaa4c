-- From the code's structs to the definitions' types.
use Rattle.std.specs.Prelude.{ℕ}
use Rattle.local_format.specs.Out.{Out}
use Rattle.local_format.specs.Number.{Chosen}
use Rattle.evr0_section.specs.Rows.{Entry}
use Rattle.evr0_section.specs.Section.{Section}
use Rattle.evr0_section.specs.Witness.{WitnessRecord}
use Rattle.evr0_fields.specs.declared.number.ProofNumber.{ProofNumber}
use Rattle.evr0_fields.specs.Maps.{Beside, beside}
use Rattle.evr0_head.specs.Maps.{counts_out}
use Rattle.evr0_read.specs.Ask.{entry_told, Place}
use Rattle.evr0_read.specs.declared.entry.Entry as code
use Rattle.evr0_read.specs.declared.find.Found.{Found}

-- a record by a map, and where it starts
abbrev pub entry_out : {T A : Type 0} → (T → A) → code.Entry T → Entry A
entry_out item_out e = record { start = e.start; item = item_out e.item }

abbrev pub parent_number : ProofNumber → ℕ
parent_number p = p.0

-- a witness with its digests
abbrev pub witness_beside : Out (Entry WitnessRecord) → Beside (Entry WitnessRecord)
witness_beside d = beside (λ w. w.item.file_digest) (λ w. w.item.origin_digest) d

abbrev pub witness_told : Out (Chosen Section (Entry WitnessRecord)) → Beside (Entry WitnessRecord)
witness_told x = witness_beside (entry_told x)

abbrev pub found_out : Found → Place
found_out f = record { schema = f.schema; end = f.end; counts = counts_out f.counts; start = f.start }
