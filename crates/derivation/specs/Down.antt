-- *Way down*.
use Rattle.std.specs.Prelude.{ℕ, zero, suc, ◌≤◌, ◌<◌, cond, List, [], ◌∷◌, eqb}
use Rattle.derivation.specs.Section.{Section, proof_at, parent_at}
use Rattle.derivation.specs.Walk.{Walk, AtEnd, Witnessed}

-- the witness and the moves made, or the proof reached with the limit spent
pub data Down : Type 0 where
  witness : ℕ → ℕ → Down
  spent : ℕ → Down

-- from the proof k, after some moves, with as many as `limit` left: always the first parent, until there is none
unfoldable pub down_from : Section → ℕ → ℕ → ℕ → Down
down_from s zero k moves = cond (eqb (proof_at s k).parent_count 0) (witness (proof_at s k).first_witness moves) (spent k)
down_from s (suc limit) k moves =
    let rest : Down = down_from s limit (parent_at s (proof_at s k).first_parent) (suc moves) in
    cond (eqb (proof_at s k).parent_count 0) (witness (proof_at s k).first_witness moves) rest

unfoldable pub way_down : Section → ℕ → ℕ → Down
way_down s limit i = down_from s limit i 0

-- the first n picks, from the proof i on, of who always picks the first parent
unfoldable pub first_picks : Section → ℕ → ℕ → List ℕ
first_picks s zero i = []
first_picks s (suc n) i = (proof_at s i).first_parent ∷ first_picks s n (parent_at s (proof_at s i).first_parent)

-- what an answer says of the way down from i with a limit: the witness of the end of a walk by first parents, whose moves are told; or, with
-- the limit spent, the proof that such a walk of as many moves reaches and that has a parent
pub data Tells (s : Section) (limit i : ℕ) : Down → Type 0 where
  ends : (moves k : ℕ) → moves ≤ limit → Walk s i (first_picks s moves i) k → AtEnd s k → Witnessed s i k
      → Tells s limit i (witness (proof_at s k).first_witness moves)
  goes_on : (k : ℕ) → Walk s i (first_picks s limit i) k → 0 < (proof_at s k).parent_count → Tells s limit i (spent k)
