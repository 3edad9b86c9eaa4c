-- Along a walk of an accepted section the proposition and the authority stay and the depth falls, so the walk is short and its end witnessed.
use Prim.Native.Nat.{ℕ, zero, suc, ◌+◌, ◌≤◌, ◌<◌}
use mathlib.Core.Path.{◌≡◌, refl, sym, ap, ◌∙◌}
use mathlib.Core.Logic.{⊎_elim}
use mathlib.Core.Bool.{true}
use mathlib.Core.List.{List, [], ◌∷◌, ◌++◌}
use native.Mathlib.Omega.{arith}
use native.Mathlib.Nat.{le_refl}
use lib.ListN.{length}
use lib.Dec.{eqb}
use borrow.Author.Tests.{eqb-true}
use Rattle.derivation.specs.Rule.{Rule, Shaped, by_witness, by_parents, polarity_fits}
use Rattle.derivation.specs.Section.{Section, Checked, proof_at, parent_at, proof_total, OwnsParent, OwnsWitness}
use Rattle.derivation.specs.Walk.{Walk, stay, move, AtEnd, Same, Witnessed, Fails, long, strays, unwitnessed, NoWalkFails, ParentsBelow, JoinsRise}
use Rattle.derivation.specs.Demand.{Ending, NoParentLeft, Leads, Derivable}
use Rattle.derivation.proofs.Tests.{either, order}
use Rattle.derivation.proofs.Owners.{witness_there}
use Rattle.derivation.proofs.Sound.{Sound}

-- a rule that asks for no parent asks for one witness, of its polarity
no_parent : (r : Rule) → Shaped r → r.parents ≡ 0 → (r.witnesses ≡ 1) × ((n : ℕ) → polarity_fits r n ≡ true → n ≡ r.polarity)
unfolding polarity_fits
no_parent r (by_witness w p q) z = (
  w,
  λ n e. ⊎_elim (λ h. absurd (omega (arith, eqb-true r.polarity 2 h))) (eqb-true n r.polarity) (either (eqb r.polarity 2) (eqb n r.polarity) e),
)
no_parent r (by_parents w l u q) z = absurd (omega arith)

pub walk_append : {s : Section} {i j k : ℕ} {cs ds : List ℕ} → Walk s i cs j → Walk s j ds k → Walk s i (cs ++ ds) k
walk_append (stay l) v = v
walk_append (move l o h n w) v = move l o h n (walk_append w v)

walk_start : {s : Section} {i k : ℕ} {cs : List ℕ} → Walk s i cs k → i < proof_total s
walk_start (stay l) = l
walk_start (move l o h n w) = l

pub walk_end : {s : Section} {i k : ℕ} {cs : List ℕ} → Walk s i cs k → k < proof_total s
walk_end (stay l) = l
walk_end (move l o h n w) = walk_end w

-- the first parent cell of a proof that has one
pub first_owned : (s : Section) (i : ℕ) → 0 < (proof_at s i).parent_count → OwnsParent s i (proof_at s i).first_parent
first_owned s i h = record { from = le_refl (proof_at s i).first_parent; upto = omega arith }

module _ (s : Section) (checked : Checked s) (D : ℕ → ℕ) (sound : (i : ℕ) → i < proof_total s → Sound s D i) where
  positive : (i : ℕ) → i < proof_total s → 0 < D i
  positive i l = ⊎_elim (λ q. omega arith) (λ q. omega (arith, q.2)) (sound i l).attained

  same_along : {i k : ℕ} {cs : List ℕ} → Walk s i cs k → Same s i k
  same_along (stay l) = record { proposition = refl; authority = refl }
  same_along (move {i = i} {j = j} {c = c} l o h n w) =
      let e : j ≡ parent_at s c = sym (checked.proof_number j h) ∙ n in
      let r = same_along w in
      let q = (sound i l).kin c o in
      record {
        proposition = r.proposition ∙ ap (λ (x : ℕ). (proof_at s x).proposition) e ∙ q.proposition;
        authority = r.authority ∙ ap (λ (x : ℕ). (proof_at s x).authority) e ∙ q.authority;
      }

  depth_along : {i k : ℕ} {cs : List ℕ} → Walk s i cs k → length cs + D k ≤ D i
  depth_along (stay l) = omega arith
  depth_along (move {i = i} {j = j} {c = c} l o h n w) =
      let e : j ≡ parent_at s c = sym (checked.proof_number j h) ∙ n in
      omega (arith, depth_along w, ap D e, (sound i l).deeper c o)

  moves_along : {i k : ℕ} {cs : List ℕ} → Walk s i cs k → length cs ≤ 255
  moves_along {i} {k} w = omega (arith, depth_along w, positive k (walk_end w), (sound i (walk_start w)).shallow)

  pick : (k c : ℕ) → k < proof_total s → OwnsParent s k c → (parent_at s c < proof_total s) × ((proof_at s (parent_at s c)).number ≡ parent_at s c)
  pick k c l o =
      let h : parent_at s c < proof_total s = omega (arith, ((sound k l).kin c o).below, checked.proof_number k l) in
      (h, checked.proof_number (parent_at s c) h)

  at_end : {i k : ℕ} {cs : List ℕ} → Walk s i cs k → AtEnd s k → Witnessed s i k
  unfolding AtEnd
  at_end {i} {k} w z =
      let l : k < proof_total s = walk_end w in
      let r = no_parent (proof_at s k).rule (checked.shaped k l) (sym (checked.shape_parents k l) ∙ z) in
      let one : (proof_at s k).witness_count ≡ 1 = checked.shape_witnesses k l ∙ r.0 in
      let o : OwnsWitness s k (proof_at s k).first_witness = record { from = le_refl (proof_at s k).first_witness; upto = omega arith } in
      let f = (sound k l).witnesses (proof_at s k).first_witness o in
      record {
        rule = r.0;
        one = one;
        there = witness_there s checked k (proof_at s k).first_witness l o;
        proposition = f.proposition ∙ (same_along w).proposition;
        polarity = r.1 _ f.polarity;
      }

  -- from k on, always the first parent, to an end
  down : (fuel k : ℕ) → k < proof_total s → D k ≤ fuel → (cs : List ℕ) × (e : ℕ) × Walk s k cs e × AtEnd s e
  unfolding AtEnd
  down zero k l h = absurd (omega (arith, positive k l))
  down (suc fuel) k l h =
      ⊎_elim
      (λ g. ([], k, stay l, omega arith))
      (λ g.
      let c : ℕ = (proof_at s k).first_parent in
      let o : OwnsParent s k c = first_owned s k g in
      let p = pick k c l o in
      let r = down fuel (parent_at s c) p.0 (omega (arith, (sound k l).deeper c o)) in
      (c ∷ r.0, r.1, move l o p.0 p.1 r.2, r.3))
      (order (proof_at s k).parent_count 0)

  ending : {i k : ℕ} {cs : List ℕ} → Walk s i cs k → Ending s i cs
  ending {k = k} w =
      let r = down (D k) k (walk_end w) (le_refl (D k)) in
      let v = walk_append w r.2 in
      record { more = r.0; last = r.1; walk = v; end = r.3; witnessed = at_end v r.3; moves = moves_along v }

  pub leads : (i : ℕ) (cs : List ℕ) (k : ℕ) → Walk s i cs k → Leads s i k
  leads i cs k w =
      record {
        same = same_along w;
        pickable = λ c o. let p = pick k c (walk_end w) o in (parent_at s c, p.0, p.1);
        witnessed = at_end w;
      }

  -- 255 moves take a depth of 256 down to 1, which no proof with a parent has
  at_255 : {i k : ℕ} {cs : List ℕ} → Walk s i cs k → length cs ≡ 255 → AtEnd s k
  unfolding AtEnd
  at_255 {i} {k} w e =
      ⊎_elim
      (λ g. omega arith)
      (λ g.
      let o : OwnsParent s k (proof_at s k).first_parent = first_owned s k g in
      let p = pick k (proof_at s k).first_parent (walk_end w) o in
      absurd (omega (arith, depth_along w, (sound i (walk_start w)).shallow, (sound k (walk_end w)).deeper _ o, positive _ p.0)))
      (order (proof_at s k).parent_count 0)

  pub no_parent_left : NoParentLeft s
  no_parent_left = record { moves = λ i cs k. moves_along; last = λ i cs k. at_255; ending = λ i cs k. ending }

  fails_not : (i : ℕ) (cs : List ℕ) (k : ℕ) → Walk s i cs k → Fails s i cs → ⊥
  fails_not i cs k w (long h) = omega (arith, moves_along w)
  fails_not i cs k w (strays n k' v d) = d (same_along v)
  fails_not i cs k w (unwitnessed k' v z d) = d (at_end v z)

  pub derivable : Derivable s
  unfolding NoWalkFails ParentsBelow JoinsRise
  derivable =
      record {
        below = λ i c l o. ((sound i l).kin c o).below;
        rise = λ i l r. (sound i l).rise (proof_at s i).first_parent (le_refl (proof_at s i).first_parent) (omega (arith, checked.shape_parents i l));
        no_walk_fails = fails_not;
      }
