-- Depth by rounds. Where each parent cell has passed 25 and 26, the heights meet their own equation, and after n rounds the proofs up to the height
-- n are marked, each by its height: induction on n.
use Prim.Native.Nat.{ℕ, zero, suc, ◌+◌, ◌≤◌, ◌<◌, max}
use mathlib.Core.Path.{◌≡◌, refl, sym, ap, ◌∙◌}
use mathlib.Core.Logic.{◌↔◌, ◌⊎◌, inl, inr, ⊎_elim}
use mathlib.Core.Bool.{Bool, true, false, cond, not}
use mathlib.Core.List.{List, []}
use native.Mathlib.Nat.{le_refl}
use native.Mathlib.Omega.{arith}
use lib.ListN.{length, get_or, replicate, length-replicate, get_or-replicate, get_or-eq_default}
use lib.Dec.{leb}
use borrow.Author.Tests.{eq-eqb, eqb-false, le-leb, lt-leb, ne_eqb, not-true}
use Rattle.local_format.specs.Out.{ok}
use Rattle.local_format.proofs.OutLaws.{then_ok}
use Rattle.derivation.specs.Section.{Proof, Section, Checked, Within, proof_at, parent_at, proof_total, OwnsParent}
use Rattle.derivation.specs.Pass.{parents_from}
use Rattle.derivation.specs.Walk.{AtEnd}
use Rattle.rounds.specs.Rounds.{is_marked, all_marked, parents_marked, turn, turns, after_rounds, kin}
use Rattle.rounds.specs.Height.{greatest, height_of, heights, height, Height}
use Rattle.derivation.proofs.Tests.{both, both_true, order, at_or_after}
use Rattle.derivation.proofs.InOrder.{made, gathered_local, from_parent, from_some}
use Rattle.derivation.proofs.Sound.{parents_sound}
use Rattle.derivation.proofs.Along.{first_owned}
use Rattle.rounds.proofs.Kin.{passed}

-- ---- Marked and unmarked

pub clash : {b : Bool} → b ≡ true → b ≡ false → ⊥
clash p q = let z : ◌≡◌ {A = ℕ} 0 1 = cc in omega arith

-- the number of a proof of height h after n rounds
abbrev capped : ℕ → ℕ → ℕ
capped n h = cond (leb h n) h 0

pub capped_in : (n h : ℕ) → h ≤ n → capped n h ≡ h
capped_in n h l = simp (le-leb h n l)

pub capped_out : (n h : ℕ) → n < h → capped n h ≡ 0
capped_out n h l = simp (lt-leb h n l)

module _ (ms : List ℕ) (n h j : ℕ) (is : get_or ms j 0 ≡ capped n h) where
  marked_low : is_marked ms j ≡ true → h ≤ n
  unfolding is_marked
  marked_low e =
      ⊎_elim (λ l. l) (λ l. absurd (eqb-false (get_or ms j 0) 0 (not-true _ e) (is ∙ capped_out n h l))) (order h n)

  low_marked : 0 < h → h ≤ n → is_marked ms j ≡ true
  unfolding is_marked
  low_marked z l = ap not (ne_eqb (get_or ms j 0) 0 (λ e. let q : h ≡ 0 = sym (capped_in n h l) ∙ sym is ∙ e in omega arith))

module _ (s : Section) (ms : List ℕ) where
  all_each : (k c : ℕ) → all_marked s ms k c ≡ true → (d : ℕ) → Within c k d → is_marked ms (parent_at s d) ≡ true
  unfolding all_marked
  all_each zero c e d o = absurd (omega arith)
  all_each (suc k) c e d o =
      let a = both (is_marked ms (parent_at s c)) _ e in
      at_or_after (λ (d : ℕ). is_marked ms (parent_at s d) ≡ true) c k a.0 (all_each k (suc c) a.1) d o

  each_all : (k c : ℕ) → ((d : ℕ) → Within c k d → is_marked ms (parent_at s d) ≡ true) → all_marked s ms k c ≡ true
  unfolding all_marked
  each_all zero c h = refl
  each_all (suc k) c h =
      both_true _ _ (h c (record { from = omega arith; upto = omega arith }))
      (each_all k (suc c) (λ d o. h d (record { from = omega arith; upto = omega arith })))

  pub turns_length : (r n i : ℕ) → length (turns s r ms n i) ≡ n
  unfolding turns
  turns_length r zero i = refl
  turns_length r (suc n) i = ap suc (turns_length r n (suc i))

  pub turns_at : (r n i j : ℕ) → j < n → get_or (turns s r ms n i) j 0 ≡ turn s r ms (i + j)
  unfolding turns
  turns_at r zero i j l = absurd (omega arith)
  turns_at r (suc n) i zero l = ap (turn s r ms) (omega arith)
  turns_at r (suc n) i (suc j) l = let e : suc i + j ≡ i + suc j = omega arith in turns_at r n (suc i) j (omega arith) ∙ ap (turn s r ms) e

pub after_length : (s : Section) (n : ℕ) → length (after_rounds s n) ≡ proof_total s
unfolding after_rounds
after_length s zero = length-replicate (proof_total s) 0
after_length s (suc n) = turns_length s (after_rounds s n) (suc n) (proof_total s) 0

-- proofs without parents go first
none_at_first : (s : Section) (j : ℕ) → is_marked (after_rounds s 0) j ≡ false
unfolding is_marked after_rounds
none_at_first s j =
    ap not (eq-eqb _ 0 (⊎_elim
    (λ l. get_or-replicate (proof_total s) j 0 0 l)
    (λ l. get_or-eq_default (replicate (proof_total s) 0) 0 {n = j} (omega (arith, length-replicate {A = ℕ} (proof_total s) 0)))
    (order (suc j) (proof_total s))))

pub first_round : (s : Section) (i : ℕ) → i < proof_total s → (get_or (after_rounds s 1) i 0 ≡ 1) ↔ AtEnd s i
unfolding after_rounds turn AtEnd all_marked
first_round s i l = go (proof_at s i).parent_count refl
  where
    is : get_or (after_rounds s 1) i 0 ≡ cond (parents_marked s (after_rounds s 0) i) 1 0
    is =
        let e : 0 + i ≡ i = omega arith in
        turns_at s (after_rounds s 0) 1 (proof_total s) 0 i l ∙ ap (turn s 1 (after_rounds s 0)) e ∙ rw (none_at_first s i)

    go : (k : ℕ) → (proof_at s i).parent_count ≡ k → (get_or (after_rounds s 1) i 0 ≡ 1) ↔ ((proof_at s i).parent_count ≡ 0)
    go zero e = ((λ _. e), (λ _. is ∙ rw e))
    go (suc k) e =
        let unmarked : get_or (after_rounds s 1) i 0 ≡ 0 = is ∙ rw (e, none_at_first s (parent_at s (proof_at s i).first_parent)) in
        ((λ q. absurd (omega arith)), (λ z. absurd (omega arith)))

max_one : (n a b : ℕ) → n ≤ max a b → (n ≤ a) ⊎ (n ≤ b)
max_one n a b h = ⊎_elim (λ g. inl g) (λ g. inr (omega arith)) (order n a)

module _ (cells_at : ℕ) (s : Section) (checked : Checked s) (pass : kin cells_at s ≡ ok tt) where
  below : (i c : ℕ) → i < proof_total s → OwnsParent s i c → parent_at s c < i
  below i c l o =
      let p = then_ok (parents_from cells_at s (proof_at s i) [] _ _ 0 0) _ (passed cells_at s pass i l) in
      omega (arith, checked.proof_number i l, ((parents_sound cells_at s (proof_at s i) [] _ _ _ _ p.0 p.1).kin c o).below)

  there : (i : ℕ) → i < proof_total s → (c : ℕ) → OwnsParent s i c → parent_at s c < proof_total s
  there i l c o = omega (arith, below i c l o)

  -- ---- The heights
  height_local : (i : ℕ) (xs ys : List ℕ) → i < proof_total s → ((j : ℕ) → j < i → get_or xs j 0 ≡ get_or ys j 0) → height_of s i xs ≡ height_of s i ys
  unfolding height_of
  height_local i xs ys l same = ap suc (gathered_local max s xs ys _ _ 0 (λ c o. same (parent_at s c) (below i c l o)))

  pub heights_made : (length (heights s) ≡ proof_total s) × ((i : ℕ) → i < proof_total s → height s i ≡ height_of s i (heights s))
  unfolding heights
  heights_made = made (height_of s) (proof_total s) height_local

  pub height_some : (i : ℕ) → i < proof_total s → 0 < height s i
  unfolding height_of
  height_some i l = omega (arith, heights_made.1 i l)

  pub height_over : (i c : ℕ) → i < proof_total s → OwnsParent s i c → height s (parent_at s c) < height s i
  unfolding height_of
  height_over i c l o =
      let h : ℕ = height s (parent_at s c) in
      omega (
        arith,
        heights_made.1 i l,
        from_parent max (λ m. h ≤ m) (λ a b g. omega arith) (λ a b g. omega arith) s (heights s) _ _ 0 c o (le_refl h),
      )

  height_upto : (n i : ℕ) → i < proof_total s → ((c : ℕ) → OwnsParent s i c → height s (parent_at s c) ≤ n) → height s i ≤ suc n
  unfolding height_of
  height_upto n i l upto =
      ⊎_elim (λ g. g)
      (λ g.
      let some =
      from_some max (λ m. n < m) (max_one (suc n)) s (heights s) (proof_at s i).parent_count (proof_at s i).first_parent 0 (omega (arith, heights_made.1 i l))
      in
      absurd (⊎_elim (λ q. omega arith) (λ q. omega (arith, q.2, upto q.0 q.1)) some))
      (order (height s i) (suc n))

  -- without parents 1, else one more than the deepest parent's
  pub heights_are : (i : ℕ) → i < proof_total s → Height s i
  unfolding AtEnd height_of
  heights_are i l =
      let p : Proof = proof_at s i in
      let g : ℕ = greatest s p (heights s) in
      let is : height s i ≡ suc g = heights_made.1 i l in
      let first : 0 < p.parent_count → OwnsParent s i p.first_parent = first_owned s i in
      record {
        alone = λ z. omega (arith, height_some i l, height_upto 0 i l (λ c o. absurd (omega (arith, o.from, o.upto))));
        below = λ c o. height_over i c l o;
        deepest = λ z. ⊎_elim
            (λ q. absurd (omega (arith, height_over i p.first_parent l (first z), height_some _ (there i l p.first_parent (first z)))))
            (λ q. (q.0, q.1, omega (arith, q.2, height_over i q.0 l q.1)))
            (from_some max (λ m. g ≤ m) (max_one g) s (heights s) p.parent_count p.first_parent 0 (le_refl g));
      }

  -- ---- The rounds
  module _ (n : ℕ) (inv : (j : ℕ) → j < proof_total s → get_or (after_rounds s n) j 0 ≡ capped n (height s j)) (i : ℕ) (l : i < proof_total s) where
    marked_upto : is_marked (after_rounds s n) i ≡ true → height s i ≤ n
    marked_upto = marked_low _ n (height s i) i (inv i l)

    unmarked_over : is_marked (after_rounds s n) i ≡ false → n < height s i
    unmarked_over e = ⊎_elim (λ g. absurd (clash (low_marked _ n (height s i) i (inv i l) (height_some i l) g) e)) (λ g. g) (order (height s i) n)

    all_upto : parents_marked s (after_rounds s n) i ≡ true → height s i ≤ suc n
    all_upto e = height_upto n i l (λ c o. marked_low _ n _ (parent_at s c) (inv _ (there i l c o)) (all_each s _ _ _ e c o))

    upto_all : height s i ≤ suc n → parents_marked s (after_rounds s n) i ≡ true
    upto_all g =
        each_all s _ _ _ λ c o.
        low_marked _ n _ (parent_at s c) (inv _ (there i l c o)) (height_some _ (there i l c o)) (omega (arith, height_over i c l o))

    turn_is : turn s (suc n) (after_rounds s n) i ≡ capped (suc n) (height s i)
    unfolding turn
    turn_is = go _ _ refl refl
      where
        go : (b d : Bool) → is_marked (after_rounds s n) i ≡ b → parents_marked s (after_rounds s n) i ≡ d
            → cond b (get_or (after_rounds s n) i 0) (cond d (suc n) 0) ≡ capped (suc n) (height s i)
        go true d e f =
            let low : height s i ≤ n = marked_upto e in
            inv i l ∙ capped_in n (height s i) low ∙ sym (capped_in (suc n) (height s i) (omega arith))
        go false true e f =
            let low : height s i ≤ suc n = all_upto f in
            let is : suc n ≡ height s i = omega (arith, unmarked_over e) in
            is ∙ sym (capped_in (suc n) (height s i) low)
        go false false e f =
            let deep : suc n < height s i = ⊎_elim (λ g. absurd (clash (upto_all g) f)) (λ g. g) (order (height s i) (suc n)) in
            sym (capped_out (suc n) (height s i) deep)

  -- the round in which a proof is marked is its depth
  pub round_is_depth : (n i : ℕ) → i < proof_total s → get_or (after_rounds s n) i 0 ≡ cond (leb (height s i) n) (height s i) 0
  unfolding after_rounds
  round_is_depth zero i l = get_or-replicate (proof_total s) i 0 0 l ∙ sym (capped_out 0 (height s i) (height_some i l))
  round_is_depth (suc n) i l =
      let e : 0 + i ≡ i = omega arith in
      turns_at s (after_rounds s n) (suc n) (proof_total s) 0 i l ∙ ap (turn s (suc n) (after_rounds s n)) e ∙ turn_is n (round_is_depth n) i l

  -- a proof unmarked after 256 rounds exists exactly where some proof's depth is above 256
  pub unmarked_exactly : ((i : ℕ) × (i < proof_total s) × (get_or (after_rounds s 256) i 0 ≡ 0)) ↔ ((i : ℕ) × (i < proof_total s) × (256 < height s i))
  unmarked_exactly = (
    (λ u. (u.0, u.1, unmarked_deep u.0 u.1 u.2)),
    (λ d. (d.0, d.1, round_is_depth 256 d.0 d.1 ∙ capped_out 256 (height s d.0) d.2)),
  )
    where
      unmarked_deep : (i : ℕ) → i < proof_total s → get_or (after_rounds s 256) i 0 ≡ 0 → 256 < height s i
      unmarked_deep i l e =
          ⊎_elim
          (λ g. let q : height s i ≡ 0 = sym (capped_in 256 (height s i) g) ∙ sym (round_is_depth 256 i l) ∙ e in absurd (omega (arith, height_some i l)))
          (λ g. g)
          (order (height s i) 256)
