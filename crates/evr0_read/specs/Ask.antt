-- A proposition, a proof, a witness and a parent by number, asked of a section that was decoded anew, and what is told of each.
use Rattle.std.specs.Prelude.{ℕ}
use Rattle.local_format.specs.Out.{Out}
use Rattle.local_format.specs.Number.{numbered, Chosen, choose}
use Rattle.evr0_section.specs.Head.{Counts}
use Rattle.evr0_section.specs.Rows.{Entry}
use Rattle.evr0_section.specs.Proposition.{Proposition}
use Rattle.evr0_section.specs.Proof.{ProofRecord, Settled}
use Rattle.evr0_section.specs.Witness.{WitnessRecord}
use Rattle.evr0_section.specs.Section.{Section}
use Rattle.evr0_read.specs.Entry.{shown, shown_proposition, shown_settled}
use Rattle.evr0_read.specs.Asked.{telling}

-- a record, and where it starts in the payload
abbrev pub proposition_number : ℕ → Out Section → Out (Chosen Section (Entry Proposition))
proposition_number n = choose (λ s. numbered n s.tables.propositions.entries)

abbrev pub proof_number : ℕ → Out Section → Out (Chosen Section (Entry Settled))
proof_number n = choose (λ s. numbered n s.tables.proofs.entries)

abbrev pub witness_number : ℕ → Out Section → Out (Chosen Section (Entry WitnessRecord))
witness_number n = choose (λ s. numbered n s.tables.witnesses.entries)

abbrev pub parent_number : ℕ → Out Section → Out (Chosen Section (Entry ℕ))
parent_number n = choose (λ s. numbered n s.tables.parents.entries)

-- told with its text at its place in the payload
abbrev pub proposition_told : Out (Chosen Section (Entry Proposition)) → Out (Entry Proposition)
proposition_told = telling (λ c. shown shown_proposition c.value)

abbrev pub proof_told : Out (Chosen Section (Entry Settled)) → Out (Entry ProofRecord)
proof_told = telling (λ c. shown shown_settled c.value)

-- told as it is
abbrev pub entry_told : {E : Type 0} → Out (Chosen Section (Entry E)) → Out (Entry E)
entry_told = telling (λ c. c.value)

-- told by its place: the section's schema, the cursor after it, its counts, and where the record starts in the payload
pub record Place : Type 0 where
  pub schema : ℕ
  pub end : ℕ
  pub counts : Counts
  pub start : ℕ

abbrev pub place_by : ℕ → ℕ → Counts → ℕ → Place
place_by schema end counts start = record { schema = schema; end = end; counts = counts; start = start }

abbrev pub place_told : {E : Type 0} → Out (Chosen Section (Entry E)) → Out Place
place_told = telling (λ c. let h = c.decoded.tables.head in place_by h.schema c.decoded.cursor h.counts c.value.start)
