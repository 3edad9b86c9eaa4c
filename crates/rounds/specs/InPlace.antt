-- A round made in place, upwards: the table t holds the marks of the proofs below the place reached after the round r, and the others before it.
use Rattle.std.specs.Prelude.{ℕ, zero, suc, Bool, true, cond, not, ◌&&◌, List, eqb, get_or}
use Rattle.derivation.specs.Section.{Section, proof_at, parent_at}

-- whether the proof j was marked in an earlier round: its entry is neither 0 nor r
unfoldable pub was_marked : ℕ → List ℕ → ℕ → Bool
was_marked r t j = not (eqb (get_or t j 0) 0) && not (eqb (get_or t j 0) r)

module _ (s : Section) (r : ℕ) (t : List ℕ) where
  -- the next k parents, from the cell c on
  unfoldable pub were_marked : ℕ → ℕ → Bool
  were_marked zero c = true
  were_marked (suc k) c = was_marked r t (parent_at s c) && were_marked k (suc c)

  -- the proof i in its turn
  unfoldable pub turn_in : ℕ → ℕ
  turn_in i = cond (eqb (get_or t i 0) 0) (cond (were_marked (proof_at s i).parent_count (proof_at s i).first_parent) r 0) (get_or t i 0)
