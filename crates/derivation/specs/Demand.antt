-- What demand 3 says of the tables of a section.
use Rattle.std.specs.Prelude.{ℕ, suc, ◌≤◌, ◌<◌, ◌≡◌, List, ◌++◌, length, get_or}
use Rattle.derivation.specs.Section.{Section, proof_at, parent_at, proof_total, witness_total, parent_total, OwnsParent, OwnsWitness}
use Rattle.derivation.specs.Walk.{Walk, AtEnd, Same, Witnessed, NoWalkFails, ParentsBelow, JoinsRise}

-- the walk from i with the picks cs goes on to an end, with at most 255 moves in all
pub record Ending (s : Section) (i : ℕ) (cs : List ℕ) : Type 0 where
  pub more : List ℕ
  pub last : ℕ
  pub walk : Walk s i (cs ++ more) last
  pub end : AtEnd s last
  pub witnessed : Witnessed s i last
  pub moves : length (cs ++ more) ≤ 255

-- after at most 255 moves no parent is left: no walk is longer, one of 255 moves is at its end, and every walk goes on to an end
pub record NoParentLeft (s : Section) : Type 0 where
  pub moves : (i : ℕ) (cs : List ℕ) (k : ℕ) → Walk s i cs k → length cs ≤ 255
  pub last : (i : ℕ) (cs : List ℕ) (k : ℕ) → Walk s i cs k → length cs ≡ 255 → AtEnd s k
  pub ending : (i : ℕ) (cs : List ℕ) (k : ℕ) → Walk s i cs k → Ending s i cs

-- where a walk from i that reaches k leads
pub record Leads (s : Section) (i k : ℕ) : Type 0 where
  pub same : Same s i k
  -- each parent cell of the proof reached can be picked
  pub pickable : (c : ℕ) → OwnsParent s k c → (j : ℕ) × (j < proof_total s) × ((proof_at s j).number ≡ parent_at s c)
  pub witnessed : AtEnd s k → Witnessed s i k

-- exactly one proof owns
pub record OneOwner (s : Section) (Owns : ℕ → Type 0) : Type 0 where
  pub owner : ℕ
  pub there : owner < proof_total s
  pub owns : Owns owner
  pub only : (i : ℕ) → i < proof_total s → Owns i → i ≡ owner

pub record Owned (s : Section) : Type 0 where
  pub parents : (c : ℕ) → c < parent_total s → OneOwner s (λ i. OwnsParent s i c)
  pub witnesses : (w : ℕ) → w < witness_total s → OneOwner s (λ i. OwnsWitness s i w)

-- the depth of the proof i: 1 without parents, else one more than the deepest parent's, and at most 256
pub record Depth (s : Section) (ds : List ℕ) (i : ℕ) : Type 0 where
  pub alone : AtEnd s i → get_or ds i 0 ≡ 1
  pub below : (c : ℕ) → OwnsParent s i c → get_or ds (parent_at s c) 0 < get_or ds i 0
  pub deepest : 0 < (proof_at s i).parent_count → (c : ℕ) × OwnsParent s i c × (get_or ds i 0 ≡ suc (get_or ds (parent_at s c) 0))
  pub most : get_or ds i 0 ≤ 256

-- one depth for each proof
pub record Depths (s : Section) (ds : List ℕ) : Type 0 where
  pub total : length ds ≡ proof_total s
  pub depth : (i : ℕ) → i < proof_total s → Depth s ds i

-- when tables that all read and pass their own checks are accepted
pub record Derivable (s : Section) : Type 0 where
  pub below : ParentsBelow s
  pub rise : JoinsRise s
  pub no_walk_fails : NoWalkFails s
