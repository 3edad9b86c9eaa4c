-- The way down of an accepted section is a walk by first parents, and is spent only at its limit: induction on the limit.
use Prim.Native.Nat.{ℕ, zero, suc, ◌+◌, ◌≤◌, ◌<◌}
use mathlib.Core.Path.{◌≡◌, refl, sym, ap, ◌∙◌, subst}
use mathlib.Core.Logic.{⊎_elim}
use mathlib.Core.Bool.{Bool, true, false, cond}
use mathlib.Core.List.{List, [], ◌∷◌}
use native.Mathlib.Omega.{arith}
use lib.ListN.{length, length-append}
use lib.Dec.{eqb}
use borrow.Author.Tests.{eqb-true, eqb-false}
use Rattle.local_format.specs.Out.{ok}
use Rattle.derivation.specs.Section.{Section, Checked, proof_at, parent_at, proof_total}
use Rattle.derivation.specs.Pass.{depths}
use Rattle.derivation.specs.Walk.{Walk, stay, move, AtEnd}
use Rattle.derivation.specs.Demand.{Leads}
use Rattle.derivation.specs.Down.{Down, witness, spent, down_from, way_down, first_picks, Tells, ends, goes_on}
use Rattle.derivation.proofs.Tests.{order}
use Rattle.derivation.proofs.Along.{walk_append, walk_end, first_owned}
use Rattle.derivation.proofs.Demand.{walks_lead, walks_end}

first_picks_length : (s : Section) (n i : ℕ) → length (first_picks s n i) ≡ n
unfolding first_picks
first_picks_length s zero i = refl
first_picks_length s (suc n) i = ap suc (first_picks_length s n (parent_at s (proof_at s i).first_parent))

-- as `Tells`, from i on, after some moves
data TellsFrom (s : Section) (limit i moves : ℕ) : Down → Type 0 where
  here : (n k : ℕ) → n ≤ limit → Walk s i (first_picks s n i) k → AtEnd s k → TellsFrom s limit i moves (witness (proof_at s k).first_witness (n + moves))
  over : (k : ℕ) → Walk s i (first_picks s limit i) k → 0 < (proof_at s k).parent_count → TellsFrom s limit i moves (spent k)

module _ (cells_at : ℕ) (s : Section) (checked : Checked s) (ds : List ℕ) (accepted : depths cells_at s ≡ ok ds) where
  lead : (i : ℕ) (cs : List ℕ) (k : ℕ) → Walk s i cs k → Leads s i k
  lead = walks_lead cells_at s checked ds accepted

  -- the first parent of a proof that has one
  first_there : (i : ℕ) → i < proof_total s → 0 < (proof_at s i).parent_count → parent_at s (proof_at s i).first_parent < proof_total s
  first_there i l h =
      let p = (lead i [] i (stay l)).pickable _ (first_owned s i h) in
      let q : p.0 ≡ parent_at s (proof_at s i).first_parent = sym (checked.proof_number p.0 p.1) ∙ p.2 in
      omega (arith, p.1)

  first_move : (i k : ℕ) (cs : List ℕ) → i < proof_total s → 0 < (proof_at s i).parent_count → Walk s (parent_at s (proof_at s i).first_parent) cs k
      → Walk s i ((proof_at s i).first_parent ∷ cs) k
  first_move i k cs l h w = move l (first_owned s i h) (first_there i l h) (checked.proof_number _ (first_there i l h)) w

  on : (limit i moves : ℕ) → i < proof_total s → 0 < (proof_at s i).parent_count → (d : Down)
      → TellsFrom s limit (parent_at s (proof_at s i).first_parent) (suc moves) d → TellsFrom s (suc limit) i moves d
  unfolding first_picks
  on limit i moves l h d (here n k u w z) =
      let e : suc n + moves ≡ n + suc moves = omega arith in
      subst (λ (m : ℕ). TellsFrom s (suc limit) i moves (witness (proof_at s k).first_witness m)) e (here (suc n) k (omega arith) (first_move i k _ l h w) z)
  on limit i moves l h d (over k w z) = over k (first_move i k _ l h w) z

  at_test : (limit i moves : ℕ) (b : Bool) (d : Down) → i < proof_total s → eqb (proof_at s i).parent_count 0 ≡ b
      → (0 < (proof_at s i).parent_count → TellsFrom s limit i moves d) → TellsFrom s limit i moves (cond b (witness (proof_at s i).first_witness moves) d)
  unfolding first_picks AtEnd
  at_test limit i moves true d l e h =
      let q : 0 + moves ≡ moves = omega arith in
      subst (λ (m : ℕ). TellsFrom s limit i moves (witness (proof_at s i).first_witness m)) q (here 0 i (omega arith) (stay l) (eqb-true _ _ e))
  at_test limit i moves false d l e h =
      h (⊎_elim (λ g. absurd (eqb-false (proof_at s i).parent_count 0 e (omega arith))) (λ g. g) (order (proof_at s i).parent_count 0))

  down_tells : (limit i moves : ℕ) → i < proof_total s → TellsFrom s limit i moves (down_from s limit i moves)
  unfolding down_from first_picks
  down_tells zero i moves l = at_test zero i moves _ _ l refl (λ h. over i (stay l) h)
  down_tells (suc limit) i moves l =
      at_test (suc limit) i moves _ _ l refl
      (λ h. on limit i moves l h _ (down_tells limit (parent_at s (proof_at s i).first_parent) (suc moves) (first_there i l h)))

  from_start : (limit i : ℕ) (d : Down) → TellsFrom s limit i 0 d → Tells s limit i d
  from_start limit i d (here n k u w z) =
      let e : n ≡ n + 0 = omega arith in
      subst (λ (m : ℕ). Tells s limit i (witness (proof_at s k).first_witness m)) e (ends n k u w z ((lead i _ k w).witnessed z))
  from_start limit i d (over k w z) = goes_on k w z

  pub way_down_lem : (limit i : ℕ) → i < proof_total s → Tells s limit i (way_down s limit i)
  unfolding way_down
  way_down_lem limit i l = from_start limit i _ (down_tells limit i 0 l)

  not_spent : (limit i : ℕ) (d : Down) → 255 ≤ limit → Tells s limit i d → (k : ℕ) → d ≡ spent k → ⊥
  not_spent limit i d h (ends n k u w z t) j e = let q : ◌≡◌ {A = ℕ} 0 1 = cc in omega arith
  not_spent limit i d h (goes_on k w z) j e =
      let v = walk_append w (first_move k _ [] (walk_end w) z (stay (first_there k (walk_end w) z))) in
      omega (
        arith,
        (walks_end cells_at s checked ds accepted).moves i _ _ v,
        length-append (first_picks s limit i) ((proof_at s k).first_parent ∷ []),
        first_picks_length s limit i,
      )

  -- a limit of 255 or more is never spent
  pub never_spent_lem : (limit i : ℕ) → i < proof_total s → 255 ≤ limit → (k : ℕ) → way_down s limit i ≡ spent k → ⊥
  never_spent_lem limit i l h = not_spent limit i _ h (way_down_lem limit i l)
