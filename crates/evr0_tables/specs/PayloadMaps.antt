-- What the code keeps of a payload's tables, and what it leaves in the lent tables.
use Rattle.std.specs.Prelude.{ℕ, ◌≡◌, List, [], map, length}
use Rattle.local_format.specs.Out.{Out, ok, refused, ◌>>=◌}
use Rattle.lent_table.specs.Lent.{lent, laid, Front}
use Rattle.evr0_section.specs.Rows.{starts_of}
use Rattle.evr0_section.specs.Head.{Head}
use Rattle.evr0_section.specs.Section.{Rest, Four, Tables, whole}
use Rattle.evr0_head.specs.Maps.{head_out}
use Rattle.evr0_tables.specs.LentTables.{Lent}
use Rattle.evr0_tables.specs.Maps.{asked}
use Rattle.evr0_tables.specs.declared.payload.Payload as code
use Rattle.evr0_tables.specs.declared.payload.Places.{Places}

-- the head, and where the witnesses and the parents start
pub record Payload : Type 0 where
  pub head : Head
  pub witnesses_at : ℕ
  pub parents_at : ℕ

abbrev pub payload_in : Out Tables → Out Payload
payload_in x = do
  t ← x
  ok (record { head = t.head; witnesses_at = t.proofs.next; parents_at = t.witnesses.next })

abbrev pub payload_out : code.Payload → Payload
payload_out p = record { head = head_out p.head; witnesses_at = p.witnesses_at; parents_at = p.parents_at }

-- the tables after a head
abbrev pub under : Head → Out Four → Out Tables
under h x = do
  f ← x
  ok (whole h f)

-- the places of the tables after a head
abbrev pub places_out : Head → Places → Payload
places_out h p = record { head = h; witnesses_at = p.witnesses_at; parents_at = p.parents_at }

-- where the parents start
abbrev pub parents_in : Out Rest → Out ℕ
parents_in x = do
  t ← x
  ok t.witnesses.next

abbrev pub proposition_starts_in : Out Tables → List ℕ
proposition_starts_in (ok t) = starts_of t.propositions.entries
proposition_starts_in (refused r) = []

abbrev pub proof_starts_in : Out Tables → List ℕ
proof_starts_in (ok t) = starts_of t.proofs.entries
proof_starts_in (refused r) = []

-- the polarities that the rules of the proofs ask, and past them what stood there; a refusal leaves zeros
abbrev pub polarities_left : Out Tables → List ℕ → List ℕ
polarities_left (ok t) before = laid (map asked t.proofs.entries) before
polarities_left (refused r) before = lent (length before) []

-- before they are cleared: two lent tables begin with the starts; of the third one it is said only where nothing is refused
pub record Begins (x : Out Tables) (before after : Lent) (given : Out Payload) : Type 0 where
  pub answer : given ≡ payload_in x
  pub propositions : Front (proposition_starts_in x) after.propositions
  pub proofs : Front (proof_starts_in x) after.proofs
  pub polarities : (t : Tables) → x ≡ ok t → after.depths ≡ laid (map asked t.proofs.entries) before.depths

-- two lent tables hold the starts, and zeros past them; a third one the polarities
pub record Reads (x : Out Tables) (before after : Lent) (given : Out Payload) : Type 0 where
  pub answer : given ≡ payload_in x
  pub propositions : after.propositions ≡ lent (length before.propositions) (proposition_starts_in x)
  pub proofs : after.proofs ≡ lent (length before.proofs) (proof_starts_in x)
  pub polarities : after.depths ≡ polarities_left x before.depths
