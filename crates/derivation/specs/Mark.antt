-- The mark of a proof (document 02, Slip 5): 1 if every walk down, by any parents until none is left, ends at a positive witness, 2 if every
-- such walk ends at a negative one, 3 otherwise.
use Rattle.std.specs.Prelude.{ℕ, ◌<◌, ◌≡◌, ◌↔◌, ◌⊎◌, cond, List, [], eqb, length, get_or}
use Rattle.derivation.specs.Section.{Section, proof_at, witness_at, proof_total}
use Rattle.derivation.specs.Walk.{Walk, AtEnd}
use Rattle.derivation.specs.InOrder.{in_order, gathered}

-- ---- Over walks

-- the polarity of the witness of the proof k, at which a walk ends that has come to k and finds no parent
unfoldable pub end_polarity : Section → ℕ → ℕ
end_polarity s k = (witness_at s (proof_at s k).first_witness).polarity

-- some walk from i ends at a witness of polarity n
pub record SomeEnds (s : Section) (i n : ℕ) : Type 0 where
  pub picks : List ℕ
  pub last : ℕ
  pub walk : Walk s i picks last
  pub end : AtEnd s last
  pub polarity : end_polarity s last ≡ n

-- every walk from i until no parent is left ends at a witness of polarity n
unfoldable pub AllEnd : Section → ℕ → ℕ → Type 0
AllEnd s i n = (picks : List ℕ) (last : ℕ) → Walk s i picks last → AtEnd s last → end_polarity s last ≡ n

-- what the mark of the proof i says
pub record Marked (s : Section) (i mark : ℕ) : Type 0 where
  pub one : (mark ≡ 1) ↔ AllEnd s i 1
  pub two : (mark ≡ 2) ↔ AllEnd s i 0
  pub three : (mark ≡ 3) ↔ ((AllEnd s i 1 → ⊥) × (AllEnd s i 0 → ⊥))
  -- a walk that ends at polarity 1 can start only from mark 1 or 3, and each such mark has such a walk
  pub positive : SomeEnds s i 1 ↔ ((mark ≡ 1) ⊎ (mark ≡ 3))
  pub negative : SomeEnds s i 0 ↔ ((mark ≡ 2) ⊎ (mark ≡ 3))

-- one mark for each proof
pub record Marks (s : Section) (ms : List ℕ) : Type 0 where
  pub total : length ms ≡ proof_total s
  pub marked : (i : ℕ) → i < proof_total s → Marked s i (get_or ms i 0)

-- ---- By the parents' marks: each proof is marked once, whatever the number of ways down

-- the mark of a proof without parents, by its witness's polarity
abbrev pub end_mark : ℕ → ℕ
end_mark polarity = cond (eqb polarity 1) 1 2

-- two marks together: the one that both are, else 3; 0 is none
unfoldable pub joined : ℕ → ℕ → ℕ
joined a b = cond (eqb a 0) b (cond (eqb b 0) a (cond (eqb a b) a 3))

module _ (s : Section) where
  -- the mark of the proof i, from those of its parents
  unfoldable pub mark_of : ℕ → List ℕ → ℕ
  mark_of i ms =
      cond (eqb (proof_at s i).parent_count 0) (end_mark (end_polarity s i)) (gathered joined s ms (proof_at s i).parent_count (proof_at s i).first_parent 0)

  -- the mark of each proof
  unfoldable pub marks : List ℕ
  marks = in_order mark_of (proof_total s) 0 []
