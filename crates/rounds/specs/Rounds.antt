-- Depth by rounds (document 02, Slip 14). The card: in each round, counted from 1, it marks the proofs all of whose parents were marked in
-- earlier rounds; proofs without parents go first. A proof's mark is the round in which it was marked, 0 while it is unmarked.
use Rattle.std.specs.Prelude.{ℕ, zero, suc, Bool, true, cond, not, ◌&&◌, List, [], ◌∷◌, eqb, get_or, replicate}
use Rattle.local_format.specs.Out.{Out, ok, check, ◌>>◌}
use Rattle.derivation.specs.Section.{Proof, Section, proof_at, parent_at, proof_total}
use Rattle.derivation.specs.Pass.{parents_from}

-- ---- The card

unfoldable pub is_marked : List ℕ → ℕ → Bool
is_marked ms i = not (eqb (get_or ms i 0) 0)

module _ (s : Section) where
  -- whether all of the next k parents, from the cell c on, are marked
  unfoldable pub all_marked : List ℕ → ℕ → ℕ → Bool
  all_marked ms zero c = true
  all_marked ms (suc k) c = is_marked ms (parent_at s c) && all_marked ms k (suc c)

  -- whether all parents of the proof i are marked
  abbrev pub parents_marked : List ℕ → ℕ → Bool
  parents_marked ms i = all_marked ms (proof_at s i).parent_count (proof_at s i).first_parent

  -- the proof i after the round r; `earlier` are the marks of earlier rounds
  unfoldable pub turn : ℕ → List ℕ → ℕ → ℕ
  turn r earlier i = cond (is_marked earlier i) (get_or earlier i 0) (cond (parents_marked earlier i) r 0)

  -- the next n proofs, from i on, after the round r
  unfoldable pub turns : ℕ → List ℕ → ℕ → ℕ → List ℕ
  turns r earlier zero i = []
  turns r earlier (suc n) i = turn r earlier i ∷ turns r earlier n (suc i)

  -- the proofs after n rounds: the round n + 1 looks at what was marked in the n rounds before it, and at nothing else
  unfoldable pub after_rounds : ℕ → List ℕ
  after_rounds zero = replicate (proof_total s) 0
  after_rounds (suc n) = turns (suc n) (after_rounds n) (proof_total s) 0

unfoldable pub none_left : List ℕ → Bool
none_left [] = true
none_left (m ∷ ms) = not (eqb m 0) && none_left ms

-- ---- Its refusals

module _ (cells_at : ℕ) (s : Section) where
  -- 25 and 26 of the parents of a proof: the last pass's own step, with no depth known
  abbrev pub kin_of : Proof → Out (Unit {0})
  kin_of p = do
    parents_from cells_at s p [] p.parent_count p.first_parent 0 0
    ok tt

  -- of the next n proofs, from i on
  unfoldable pub kin_from : ℕ → ℕ → Out (Unit {0})
  kin_from zero i = ok tt
  kin_from (suc n) i = do
    kin_of (proof_at s i)
    kin_from n (suc i)

  -- each parent cell passes 25 and 26, in the last pass's order
  abbrev pub kin : Out (Unit {0})
  kin = kin_from (proof_total s) 0

  -- the round of each proof; refused as by the last pass without 27 to 29, then with 27 where a proof is unmarked after 256 rounds
  unfoldable pub rounds : Out (List ℕ)
  rounds = do
    kin
    check (none_left (after_rounds s 256)) 27 0
    ok (after_rounds s 256)
