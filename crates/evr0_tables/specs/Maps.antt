-- From the code's structs and enums to the definitions' types, and what the code keeps of them.
use Rattle.std.specs.Prelude.{ℕ, ◌+◌, List, [], drop, Option, Some, None}
use Rattle.local_format.specs.Out.{Out, ok, refused, ◌>>=◌}
use Rattle.local_format.specs.declared.field.Field as field
use Rattle.evr0_records.specs.declared.proof.Unowned as unowned
use Rattle.evr0_section.specs.Rows.{Row, Entry, starts_of, Rows}
use Rattle.evr0_section.specs.Proposition as props
use Rattle.evr0_section.specs.Proof as proofs
use Rattle.evr0_records.specs.Maps.{proposition_record, unowned_out}
use Rattle.evr0_tables.specs.declared.rows.Before as before
use Rattle.evr0_tables.specs.declared.rows.Kept as kept
use Rattle.evr0_tables.specs.declared.rows.Noted as noted

-- ---- A record of a table

-- a proposition, in the payload p, as the one before
abbrev pub before_out : List ℕ → before.Before → props.Before
before_out p b = props.after (props.key_of (drop b.start p) (proposition_record b.proposition))

abbrev pub before_in : List ℕ → Option before.Before → props.Before
before_in p (Some b) = before_out p b
before_in p None = props.first

-- what is unowned after a proof, by its own record
abbrev pub after_record : proofs.ProofRecord → proofs.Unowned
after_record r = record { proof = r.number + 1; witness = r.first_witness + r.witness_count; parent = r.first_parent + r.parent_count }

-- of a record, what the next one is read and checked by
pub record Kept (S : Type 0) : Type 0 where
  pub size : ℕ
  pub state : S

abbrev pub kept_in : {A S : Type 0} → Out (Row A S) → Out (Kept S)
kept_in x = do
  r ← x
  ok (record { size = r.size; state = r.state })

abbrev pub kept_out : {T S : Type 0} → (T → S) → kept.Kept T → Kept S
kept_out state k = record { size = k.size; state = state k.state }

-- the same of a proof, with the polarity that its rule asks
pub record Noted : Type 0 where
  pub polarity : ℕ
  pub kept : Kept proofs.Unowned

-- the polarity that the rule of a proof asks
abbrev pub asked : Entry proofs.Settled → ℕ
asked e = e.item.rule.polarity

abbrev pub noted_in : Out (Row proofs.Settled proofs.Unowned) → Out Noted
noted_in x = do
  r ← x
  ok (record { polarity = r.item.rule.polarity; kept = record { size = r.size; state = r.state } })

abbrev pub noted_out : noted.Noted → Noted
noted_out n = record { polarity = n.polarity; kept = kept_out unowned_out n.kept }

abbrev pub size_in : {A S : Type 0} → Out (Row A S) → Out ℕ
size_in x = do
  r ← x
  ok r.size

-- ---- A table

-- the place after it
abbrev pub next_in : {A S : Type 0} → Out (Rows A S) → Out ℕ
next_in x = do
  t ← x
  ok t.next

-- the place after the proofs, and what is then unowned
pub record Owned : Type 0 where
  pub unowned : proofs.Unowned
  pub next : ℕ

abbrev pub owned_in : Out (Rows proofs.Settled proofs.Unowned) → Out Owned
owned_in x = do
  t ← x
  ok (record { unowned = t.state; next = t.next })

abbrev pub owned_out : field.Field unowned.Unowned → Owned
owned_out o = record { unowned = unowned_out o.value; next = o.next }

-- the starts of its records; a refusal has none
abbrev pub starts_in : {A S : Type 0} → Out (Rows A S) → List ℕ
starts_in (ok t) = starts_of t.entries
starts_in (refused r) = []
