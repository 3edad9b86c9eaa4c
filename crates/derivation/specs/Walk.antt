-- The words of demand 3, as document 01 has them.
use Rattle.std.specs.Prelude.{ℕ, suc, ◌<◌, ◌≡◌, List, [], ◌∷◌, length, take}
use Rattle.derivation.specs.Section.{Section, proof_at, witness_at, parent_at, proof_total, witness_total, OwnsParent}

-- *Walk*: `Walk s i cs k` is the walk from the proof i with the picks cs, which reaches the proof k. Each pick is a parent cell that the
-- proof reached owns, and moves to the proof numbered there; a cell whose number no proof has cannot be picked. A walk may stop anywhere
pub data Walk (s : Section) : ℕ → List ℕ → ℕ → Type 0 where
  stay : {i : ℕ} → i < proof_total s → Walk s i [] i
  move : {i j k c : ℕ} {cs : List ℕ} → i < proof_total s → OwnsParent s i c → j < proof_total s → (proof_at s j).number ≡ parent_at s c → Walk s j cs k
      → Walk s i (c ∷ cs) k

-- *at its end*: the proof reached has no parent
unfoldable pub AtEnd : Section → ℕ → Type 0
AtEnd s k = (proof_at s k).parent_count ≡ 0

-- the proof k has the proposition and the authority of the start i
pub record Same (s : Section) (i k : ℕ) : Type 0 where
  pub proposition : (proof_at s k).proposition ≡ (proof_at s i).proposition
  pub authority : (proof_at s k).authority ≡ (proof_at s i).authority

-- the proof k is one of a one-witness rule (POS-WITNESS-1 with polarity 1 and NEG-WITNESS-1 with polarity 0, of the four), with one
-- witness, of the start's proposition and the rule's polarity
pub record Witnessed (s : Section) (i k : ℕ) : Type 0 where
  pub rule : (proof_at s k).rule.witnesses ≡ 1
  pub one : (proof_at s k).witness_count ≡ 1
  pub there : (proof_at s k).first_witness < witness_total s
  pub proposition : (witness_at s (proof_at s k).first_witness).proposition ≡ (proof_at s i).proposition
  pub polarity : (witness_at s (proof_at s k).first_witness).polarity ≡ (proof_at s k).rule.polarity

-- *fails*: more than 255 moves, a proof on the walk with another proposition or authority than the start, or at its end not so witnessed
pub data Fails (s : Section) (i : ℕ) (cs : List ℕ) : Type 0 where
  long : 255 < length cs → Fails s i cs
  strays : (n k : ℕ) → Walk s i (take n cs) k → (Same s i k → ⊥) → Fails s i cs
  unwitnessed : (k : ℕ) → Walk s i cs k → AtEnd s k → (Witnessed s i k → ⊥) → Fails s i cs

-- one claim, over every start and every list of picks
unfoldable pub NoWalkFails : Section → Type 0
NoWalkFails s = (i : ℕ) (cs : List ℕ) (k : ℕ) → Walk s i cs k → Fails s i cs → ⊥

-- each parent's number is below its proof's
unfoldable pub ParentsBelow : Section → Type 0
ParentsBelow s = (i c : ℕ) → i < proof_total s → OwnsParent s i c → parent_at s c < (proof_at s i).number

-- *rise*: the second parent's number of each join, a proof of a two-parent rule, is above the first
unfoldable pub JoinsRise : Section → Type 0
JoinsRise s = (i : ℕ) → i < proof_total s → (proof_at s i).rule.parents ≡ 2
    → parent_at s (proof_at s i).first_parent < parent_at s (suc (proof_at s i).first_parent)
