-- Demand 3, said of some bytes, a cursor and the lengths of the lent tables.
use Rattle.std.specs.Prelude.{ℕ, ◌≤◌, ◌<◌, ◌≡◌, ◌↔◌, ◌⊎◌, List}
use Rattle.local_format.specs.Refusal.{Refusal}
use Rattle.local_format.specs.Out.{ok, refused}
use Rattle.derivation.specs.Rule.{Rule, pos_witness1, neg_witness1, join_same_p1, four_rules}
use Rattle.derivation.specs.Section as derivation
use Rattle.derivation.specs.Section.{proof_at, witness_at, proof_total, witness_total}
use Rattle.derivation.specs.Walk.{Walk, Witnessed}
use Rattle.derivation.specs.Demand.{Leads, NoParentLeft, Owned, Depths, Derivable}
use Rattle.derivation.specs.Down.{Tells, way_down, spent}
use Rattle.evr0_section.specs.Head.{Room}
use Rattle.evr0_section.specs.Section.{Tables, Section, section_of, tables_at, section_at}

-- what holds of every section that is accepted, with its tables as they were read from the bytes
pub record Accepted (t : Tables) (ds : List ℕ) : Type 0 where
  -- from every proof and whichever parents are picked
  pub walks : (i : ℕ) (cs : List ℕ) (k : ℕ) → Walk (section_of t) i cs k → Leads (section_of t) i k
  pub no_parent_left : NoParentLeft (section_of t)
  pub owned : Owned (section_of t)
  pub depths : Depths (section_of t) ds
  pub down : (limit i : ℕ) → i < proof_total (section_of t) → Tells (section_of t) limit i (way_down (section_of t) limit i)
  pub never_spent : (limit i : ℕ) → i < proof_total (section_of t) → 255 ≤ limit → (k : ℕ) → way_down (section_of t) limit i ≡ spent k → ⊥

-- of a refusal: 1 to 24 and 61 where the tables do not read or fail a check of their own, 25 to 29 where they read and pass
pub data Stage (rules : List Rule) (room : Room) (bytes : List ℕ) (cursor : ℕ) (r : Refusal) : Type 0 where
  in_tables : tables_at rules room bytes cursor ≡ refused r → ((1 ≤ r.number) × (r.number ≤ 24)) ⊎ (r.number ≡ 61) → Stage rules room bytes cursor r
  in_last_pass : (t : Tables) → tables_at rules room bytes cursor ≡ ok t → 25 ≤ r.number → r.number ≤ 29 → Stage rules room bytes cursor r

-- by any rules
pub record DemandByRules (rules : List Rule) (room : Room) (bytes : List ℕ) (cursor : ℕ) : Type 0 where
  pub tables : (d : Section) → section_at rules room bytes cursor ≡ ok d → tables_at rules room bytes cursor ≡ ok d.tables
  pub accepted : (d : Section) → section_at rules room bytes cursor ≡ ok d → Accepted d.tables d.depths
  -- where the tables all read and pass their own checks
  pub exactly : (t : Tables) → tables_at rules room bytes cursor ≡ ok t → ((d : Section) × (section_at rules room bytes cursor ≡ ok d))
      ↔ Derivable (section_of t)
  pub stage : (r : Refusal) → section_at rules room bytes cursor ≡ refused r → Stage rules room bytes cursor r

-- ---- The words at the four rules

-- the proof k is a POS-WITNESS-1 or NEG-WITNESS-1 proof with one witness, of the start's proposition, of polarity 1 under the first rule
-- and 0 under the second
pub record PosOrNeg (s : derivation.Section) (i k : ℕ) : Type 0 where
  pub one : (proof_at s k).witness_count ≡ 1
  pub there : (proof_at s k).first_witness < witness_total s
  pub proposition : (witness_at s (proof_at s k).first_witness).proposition ≡ (proof_at s i).proposition
  pub rule : (((proof_at s k).rule ≡ pos_witness1) × ((witness_at s (proof_at s k).first_witness).polarity ≡ 1))
      ⊎ (((proof_at s k).rule ≡ neg_witness1) × ((witness_at s (proof_at s k).first_witness).polarity ≡ 0))

-- `Witnessed` says that of a proof, and a proof of a two-parent rule is one of JOIN-SAME-P-1
pub record FourWords (s : derivation.Section) : Type 0 where
  pub witnessed : (i k : ℕ) → k < proof_total s → Witnessed s i k ↔ PosOrNeg s i k
  pub join : (i : ℕ) → i < proof_total s → ((proof_at s i).rule.parents ≡ 2) ↔ ((proof_at s i).rule ≡ join_same_p1)

-- by the four rules, with these words for the tables where they read
pub record Demand3 (room : Room) (bytes : List ℕ) (cursor : ℕ) : Type 0 where
  pub by_rules : DemandByRules four_rules room bytes cursor
  pub words : (t : Tables) → tables_at four_rules room bytes cursor ≡ ok t → FourWords (section_of t)
