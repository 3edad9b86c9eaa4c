-- The part of the file that is the section has its tables, and the fronts of the lent tables are the starts of its records.
use Prim.Native.Nat.{ℕ, ◌-◌, ◌≤◌}
use mathlib.Core.Path.{◌≡◌, sym, ap, ◌∙◌}
use mathlib.Core.List.{List}
use native.Mathlib.Omega.{arith}
use lib.ListN.{length, take, drop, replicate, length-append, length-map}
use lib.Seq.{take_at}
use Rattle.lent_table.specs.Lent.{lent}
use Rattle.evr0_section.specs.Rows.{starts_of}
use Rattle.evr0_section.specs.Head.{Counts}
use Rattle.evr0_section.specs.Proposition.{proposition_row}
use Rattle.evr0_section.specs.Proof.{proof_row}
use Rattle.evr0_section.specs.Section.{Section}
use Rattle.evr0_section.proofs.RowsLaws.{trace, trace_length}
use Rattle.evr0_section.proofs.CheckedTables.{Steps, steps}
use Rattle.evr0_columns.specs.Columns.{section_bytes}
use Rattle.evr0_columns.proofs.Frames.{Decoded, decoded, Alone, section_alone}
use Rattle.columns_put.specs.Due.{Due}
use Rattle.columns_write.specs.Ready.{Ready}

-- as many of a lent table as there are starts
front_is : (entries count : ℕ) (xs : List ℕ) {table : List ℕ} → table ≡ lent entries xs → length xs ≡ count → take count table ≡ xs
front_is entries count xs e n = ap (take count) e ∙ take_at xs (replicate (entries - length xs) 0) count n

front_there : (entries count : ℕ) (xs : List ℕ) {table : List ℕ} → table ≡ lent entries xs → length xs ≡ count → count ≤ length table
front_there entries count xs e n = omega (arith, n, ap length e, length-append xs (replicate (entries - length xs) 0))

module _ {bytes : List ℕ} {cursor end : ℕ} {propositions proofs : List ℕ} {counts : Counts} {schema : ℕ}
    (ready : Ready bytes cursor end propositions proofs counts schema) where
  abbrev d : Section
  d = ready.section

  place : Decoded ready.rules ready.room bytes cursor d
  place = decoded ready.rules ready.room bytes cursor d ready.decoded

  pub starts_before : cursor ≤ end
  starts_before = omega (arith, place.next, ready.ends)

  pub ends_within : end ≤ length bytes
  ends_within = omega (arith, place.next, place.framed.inside, ready.ends)

  part : Alone ready.rules ready.room d (section_bytes bytes cursor d.cursor)
  part = section_alone ready.rules ready.room bytes cursor d ready.decoded

  abbrev payload : List ℕ
  payload = drop 8 (section_bytes bytes cursor d.cursor)

  abbrev st : Steps ready.rules ready.room payload d.tables
  st = steps ready.rules ready.room payload d.tables part.tables

  propositions_counted : length (starts_of d.tables.propositions.entries) ≡ counts.propositions
  propositions_counted =
      length-map d.tables.propositions.entries (λ e. e.start)
      ∙ trace_length proposition_row payload (trace proposition_row payload _ _ _ d.tables.propositions st.propositions)
      ∙ ap (λ (c : Counts). c.propositions) ready.counted

  proofs_counted : length (starts_of d.tables.proofs.entries) ≡ counts.proofs
  proofs_counted =
      length-map d.tables.proofs.entries (λ e. e.start)
      ∙ trace_length (proof_row ready.rules d.tables.head.counts) payload
      (trace (proof_row ready.rules d.tables.head.counts) payload _ _ _ d.tables.proofs st.proofs)
      ∙ ap (λ (c : Counts). c.proofs) ready.counted

  pub propositions_there : counts.propositions ≤ length propositions
  propositions_there = front_there ready.proposition_room _ (starts_of d.tables.propositions.entries) ready.proposition_starts propositions_counted

  pub proofs_there : counts.proofs ≤ length proofs
  proofs_there = front_there ready.proof_room _ (starts_of d.tables.proofs.entries) ready.proof_starts proofs_counted

  pub due : Due (section_bytes bytes cursor end) (take counts.propositions propositions) (take counts.proofs proofs) counts.witnesses
      counts.parents schema
  due =
      rw (← ready.ends)
      (record {
        rules = ready.rules;
        room = ready.room;
        tables = d.tables;
        long = part.long;
        read = part.tables;
        proposition_starts = sym (front_is ready.proposition_room _ _ ready.proposition_starts propositions_counted);
        proof_starts = sym (front_is ready.proof_room _ _ ready.proof_starts proofs_counted);
        witness_count = ap (λ (c : Counts). c.witnesses) ready.counted;
        parent_count = ap (λ (c : Counts). c.parents) ready.counted;
        schema_is = ready.schema_is;
      })
