-- The tables of an evidence section, and what their own checks (17 to 23) establish.
use Rattle.std.specs.Prelude.{ℕ, zero, suc, ◌+◌, ◌≤◌, ◌<◌, ◌≡◌, List, [], length, get_or}
use Rattle.derivation.specs.Rule.{Rule, Shaped}

pub record Proof : Type 0 where
  pub number : ℕ
  pub proposition : ℕ
  pub rule : Rule
  pub authority : ℕ
  pub first_witness : ℕ
  pub witness_count : ℕ
  pub first_parent : ℕ
  pub parent_count : ℕ
  pub operation : ℕ

pub record Witness : Type 0 where
  pub number : ℕ
  pub proposition : ℕ
  pub polarity : ℕ
  pub span_start : ℕ
  pub span_end : ℕ

-- the number of propositions, and the other three tables
pub record Section : Type 0 where
  pub propositions : ℕ
  pub proofs : List Proof
  pub witnesses : List Witness
  pub parents : List ℕ

-- past a table's end: these have no meaning, and no statement reads them
abbrev pub no_proof : Proof
no_proof =
    record {
      number = 0;
      proposition = 0;
      rule = record { name = []; witnesses = 0; parents = 0; operation = 0; polarity = 0 };
      authority = 0;
      first_witness = 0;
      witness_count = 0;
      first_parent = 0;
      parent_count = 0;
      operation = 0;
    }

abbrev pub no_witness : Witness
no_witness = record { number = 0; proposition = 0; polarity = 0; span_start = 0; span_end = 0 }

-- the entries by their place
unfoldable pub proof_at : Section → ℕ → Proof
proof_at s i = get_or s.proofs i no_proof

unfoldable pub witness_at : Section → ℕ → Witness
witness_at s w = get_or s.witnesses w no_witness

-- the proof number in a parent cell
unfoldable pub parent_at : Section → ℕ → ℕ
parent_at s c = get_or s.parents c 0

unfoldable pub proof_total : Section → ℕ
proof_total s = length s.proofs

unfoldable pub witness_total : Section → ℕ
witness_total s = length s.witnesses

unfoldable pub parent_total : Section → ℕ
parent_total s = length s.parents

-- a number among the `count` numbers from `first` on
pub record Within (first count n : ℕ) : Type 0 where
  pub from : first ≤ n
  pub upto : n < first + count

-- *Owns*: a proof owns the witnesses and the parent cells from its first one, as many as its count
abbrev pub OwnsParent : Section → ℕ → ℕ → Type 0
OwnsParent s i c = Within (proof_at s i).first_parent (proof_at s i).parent_count c

abbrev pub OwnsWitness : Section → ℕ → ℕ → Type 0
OwnsWitness s i w = Within (proof_at s i).first_witness (proof_at s i).witness_count w

-- f 0 + .. + f (n - 1)
unfoldable pub sum_to : (ℕ → ℕ) → ℕ → ℕ
sum_to f zero = 0
sum_to f (suc n) = sum_to f n + f n

-- what holds of the tables where none of 17 to 23 applies (19 follows: each sum of counts is at most the whole)
pub record Checked (s : Section) : Type 0 where
  pub proof_number : (i : ℕ) → i < proof_total s → (proof_at s i).number ≡ i
  pub proof_proposition : (i : ℕ) → i < proof_total s → (proof_at s i).proposition < s.propositions
  pub first_witness : (i : ℕ) → i < proof_total s → (proof_at s i).first_witness ≡ sum_to (λ k. (proof_at s k).witness_count) i
  pub first_parent : (i : ℕ) → i < proof_total s → (proof_at s i).first_parent ≡ sum_to (λ k. (proof_at s k).parent_count) i
  pub shaped : (i : ℕ) → i < proof_total s → Shaped (proof_at s i).rule
  pub shape_witnesses : (i : ℕ) → i < proof_total s → (proof_at s i).witness_count ≡ (proof_at s i).rule.witnesses
  pub shape_parents : (i : ℕ) → i < proof_total s → (proof_at s i).parent_count ≡ (proof_at s i).rule.parents
  pub shape_operation : (i : ℕ) → i < proof_total s → (proof_at s i).operation ≡ (proof_at s i).rule.operation
  pub witnesses_owned : sum_to (λ k. (proof_at s k).witness_count) (proof_total s) ≡ witness_total s
  pub parents_owned : sum_to (λ k. (proof_at s k).parent_count) (proof_total s) ≡ parent_total s
  pub witness_number : (w : ℕ) → w < witness_total s → (witness_at s w).number ≡ w
  pub witness_proposition : (w : ℕ) → w < witness_total s → (witness_at s w).proposition < s.propositions
  pub witness_polarity : (w : ℕ) → w < witness_total s → (witness_at s w).polarity ≤ 1
  pub witness_span : (w : ℕ) → w < witness_total s → (witness_at s w).span_start ≤ (witness_at s w).span_end
