-- What the rounds are held against: the depth with no limit, and the last pass with 28 and 29 left aside.
use Rattle.std.specs.Prelude.{ℕ, suc, ◌≤◌, ◌<◌, max, ◌≡◌, List, [], map, get_or}
use Rattle.local_format.specs.Refusal.{Refusal}
use Rattle.local_format.specs.Out.{Out, refused}
use Rattle.derivation.specs.Section.{Proof, Section, proof_at, parent_at, proof_total, OwnsParent}
use Rattle.derivation.specs.Walk.{AtEnd}
use Rattle.derivation.specs.InOrder.{in_order, gathered}

-- ---- The height: the depth with no limit

module _ (s : Section) where
  -- the greatest number of a proof's parents, 0 without parents
  abbrev pub greatest : Proof → List ℕ → ℕ
  greatest p hs = gathered max s hs p.parent_count p.first_parent 0

  -- 1 without parents, else one more than the deepest parent's
  unfoldable pub height_of : ℕ → List ℕ → ℕ
  height_of i hs = suc (greatest (proof_at s i) hs)

  -- the height of each proof
  unfoldable pub heights : List ℕ
  heights = in_order height_of (proof_total s) 0 []

  abbrev pub height : ℕ → ℕ
  height i = get_or heights i 0

  -- what document 01 says of the depth of the proof i, but for the limit
  pub record Height (i : ℕ) : Type 0 where
    pub alone : AtEnd s i → height i ≡ 1
    pub below : (c : ℕ) → OwnsParent s i c → height (parent_at s c) < height i
    pub deepest : 0 < (proof_at s i).parent_count → (c : ℕ) × OwnsParent s i c × (height i ≡ suc (height (parent_at s c)))

-- ---- 28 and 29 left aside: the same section, with no witness asked of any proof

abbrev pub unasked : Proof → Proof
unasked p =
    record {
      number = p.number;
      proposition = p.proposition;
      rule = p.rule;
      authority = p.authority;
      first_witness = p.first_witness;
      witness_count = 0;
      first_parent = p.first_parent;
      parent_count = p.parent_count;
      operation = p.operation;
    }

unfoldable pub left_aside : Section → Section
left_aside s = record { propositions = s.propositions; proofs = map unasked s.proofs; witnesses = s.witnesses; parents = s.parents }

-- refused with a number from `low` to `high`
abbrev pub RefusedWith : {A : Type 0} → ℕ → ℕ → Out A → Type 0
RefusedWith low high x = (r : Refusal) × (x ≡ refused r) × (low ≤ r.number) × (r.number ≤ high)
