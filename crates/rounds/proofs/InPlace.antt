-- A round made in place, in the terms of a loop: before the proof i the table holds the proofs below i after the round, and the others before it.
-- A parent was marked in an earlier round where its number there is neither 0 nor the round's. Once none is left, further rounds change nothing.
use Prim.Native.Nat.{ℕ, zero, suc, ◌+◌, ◌-◌, ◌≤◌, ◌<◌}
use mathlib.Core.Path.{◌≡◌, refl, sym, ap, ◌∙◌, subst}
use mathlib.Core.Logic.{⊎_elim}
use mathlib.Core.Bool.{Bool, true, false, cond, not, ◌&&◌}
use mathlib.Core.List.{List, [], ◌∷◌, ◌++◌, append-nil}
use native.Mathlib.Nat.{le_refl}
use native.Mathlib.Omega.{arith}
use lib.ListN.{length, get_or, drop, set, length-append, length-drop, get_or-append, get_or-eq_default, get_or-replicate}
use lib.Seq.{get_or-append-add, get_or-drop, set_at, drop-cons, drop-length, append_snoc, ext_get_or}
use lib.Dec.{eqb}
use borrow.Author.Tests.{eq-eqb, ne_eqb}
use Rattle.derivation.specs.Section.{Section, proof_at, parent_at, proof_total}
use Rattle.rounds.specs.Rounds.{is_marked, all_marked, turn, turns, after_rounds, none_left}
use Rattle.rounds.specs.InPlace.{was_marked, were_marked, turn_in}
use Rattle.derivation.proofs.Tests.{order}
use Rattle.rounds.proofs.Rounds.{clash, turns_length, turns_at, after_length}
use Rattle.rounds.proofs.Methods.{none_left_lem}

and_true : (a : Bool) → (a && true) ≡ a
and_true true = refl
and_true false = refl

and_false : (a : Bool) → (a && false) ≡ false
and_false true = refl
and_false false = refl

swapped : (b : Bool) (x y : ℕ) → cond b x y ≡ cond (not b) y x
swapped true x y = refl
swapped false x y = refl

module _ (s : Section) (r : ℕ) (ms : List ℕ) where
  turn_cases : (P : ℕ → Type 0) (i : ℕ) → (is_marked ms i ≡ true → P (get_or ms i 0)) → (is_marked ms i ≡ false → P r) → (is_marked ms i ≡ false → P 0)
      → P (turn s r ms i)
  unfolding turn
  turn_cases P i p q z = go _ (all_marked s ms (proof_at s i).parent_count (proof_at s i).first_parent) refl
    where
      go : (b d : Bool) → is_marked ms i ≡ b → P (cond b (get_or ms i 0) (cond d r 0))
      go true d e = p e
      go false true e = q e
      go false false e = z e

  turns_snoc : (n i : ℕ) → turns s r ms (suc n) i ≡ turns s r ms n i ++ (turn s r ms (i + n) ∷ [])
  unfolding turns
  turns_snoc zero i = ap (λ (j : ℕ). turn s r ms j ∷ []) (omega arith)
  turns_snoc (suc n) i =
      let e : suc i + n ≡ i + suc n = omega arith in
      ap (λ (xs : List ℕ). turn s r ms i ∷ xs) (turns_snoc n (suc i) ∙ ap (λ (j : ℕ). turns s r ms n (suc i) ++ (turn s r ms j ∷ [])) e)

  -- the table before the proof i
  unfoldable pub partly : ℕ → List ℕ
  partly i = turns s r ms i 0 ++ drop i ms

  partly_below : (i j : ℕ) → j < i → get_or (partly i) j 0 ≡ turn s r ms j
  unfolding partly
  partly_below i j l =
      let e : 0 + j ≡ j = omega arith in
      get_or-append (turns s r ms i 0) (drop i ms) 0 j (omega (arith, turns_length s ms r i 0)) ∙ turns_at s ms r i 0 j l ∙ ap (turn s r ms) e

  partly_from : (i j : ℕ) → i ≤ j → get_or (partly i) j 0 ≡ get_or ms j 0
  unfolding partly
  partly_from i j l =
      let xs : List ℕ = turns s r ms i 0 in
      let at : length xs + (j - i) ≡ j = omega (arith, turns_length s ms r i 0) in
      let e : i + (j - i) ≡ j = omega arith in
      ap (λ (j : ℕ). get_or (xs ++ drop i ms) j 0) (sym at) ∙ get_or-append-add xs (drop i ms) (j - i) 0 ∙ get_or-drop i ms (j - i) 0
      ∙ ap (λ (j : ℕ). get_or ms j 0) e

  partly_length : (i : ℕ) → i ≤ length ms → length (partly i) ≡ length ms
  unfolding partly
  partly_length i l = length-append (turns s r ms i 0) (drop i ms) ∙ simp (turns_length, length-drop) (omega arith)

  pub partly_all : partly (length ms) ≡ turns s r ms (length ms) 0
  unfolding partly
  partly_all = rw drop-length (append-nil (turns s r ms (length ms) 0))

  partly_turn : (i : ℕ) → i < length ms → set (partly i) i (turn s r ms i) ≡ partly (suc i)
  unfolding partly
  partly_turn i l =
      let xs : List ℕ = turns s r ms i 0 in
      let rest : List ℕ = drop (suc i) ms in
      let v : ℕ = turn s r ms i in
      let e : 0 + i ≡ i = omega arith in
      ap (λ (ys : List ℕ). set (xs ++ ys) i v) (drop-cons ms i 0 l)
      ∙ set_at xs (get_or ms i 0) rest v i (turns_length s ms r i 0)
      ∙ sym (append_snoc xs v rest)
      ∙ ap (λ (ys : List ℕ). ys ++ rest) (sym (turns_snoc i 0 ∙ ap (λ (j : ℕ). xs ++ (turn s r ms j ∷ [])) e))

  -- marked proofs stay, so a round may start at the first unmarked one
  pub partly_marked : (i : ℕ) → i ≤ length ms → ((j : ℕ) → j < i → get_or ms j 0 ≡ 0 → ⊥) → partly i ≡ ms
  unfolding is_marked
  partly_marked i l marked =
      ext_get_or 0 _ _ (partly_length i l) (λ j g.
      ⊎_elim
      (λ h. partly_below i j h ∙ turn_cases (λ m. m ≡ get_or ms j 0) j (λ _. refl) (λ b. absurd (clash (is j h) b)) (λ b. absurd (clash (is j h) b)))
      (λ h. partly_from i j (omega arith))
      (order (suc j) i))
    where
      is : (j : ℕ) → j < i → is_marked ms j ≡ true
      is j h = ap not (ne_eqb _ 0 (marked j h))

  module _ (earlier : (j : ℕ) → get_or ms j 0 < r) where
    -- a number of the table before the round
    was_marked_lem : (t : List ℕ) (j : ℕ) → get_or t j 0 ≡ get_or ms j 0 → was_marked r t j ≡ is_marked ms j
    unfolding was_marked is_marked
    was_marked_lem t j e = rw (e, ne_eqb (get_or ms j 0) r (omega (arith, earlier j))) (and_true _)

    -- and after it
    turned : (t : List ℕ) (j : ℕ) → get_or t j 0 ≡ turn s r ms j → was_marked r t j ≡ is_marked ms j
    unfolding was_marked
    turned t j =
        turn_cases (λ m. get_or t j 0 ≡ m → was_marked r t j ≡ is_marked ms j) j
        (λ b e. was_marked_lem t j e)
        (λ b e. ap (λ (z : Bool). not (eqb (get_or t j 0) 0) && not z) (eq-eqb (get_or t j 0) r e) ∙ and_false (not (eqb (get_or t j 0) 0)) ∙ sym b)
        (λ b e. ap (λ (z : Bool). not z && not (eqb (get_or t j 0) r)) (eq-eqb (get_or t j 0) 0 e) ∙ sym b)

    partly_was : (i j : ℕ) → was_marked r (partly i) j ≡ is_marked ms j
    partly_was i j = ⊎_elim (λ l. turned (partly i) j (partly_below i j l)) (λ l. was_marked_lem (partly i) j (partly_from i j (omega arith))) (order (suc j) i)

    partly_were : (i k c : ℕ) → were_marked s r (partly i) k c ≡ all_marked s ms k c
    unfolding were_marked all_marked
    partly_were i zero c = refl
    partly_were i (suc k) c = rw (partly_was i (parent_at s c), partly_were i k (suc c))

    turn_in_place : (i : ℕ) → turn_in s r (partly i) i ≡ turn s r ms i
    unfolding turn is_marked turn_in
    turn_in_place i =
        rw (partly_from i i (le_refl i), partly_were i (proof_at s i).parent_count (proof_at s i).first_parent) (swapped (eqb (get_or ms i 0) 0) _ _)

    -- one proof, and the next
    pub partly_next : (i : ℕ) → i < length ms → set (partly i) i (turn_in s r (partly i) i) ≡ partly (suc i)
    partly_next i l = ap (set (partly i) i) (turn_in_place i) ∙ partly_turn i l

-- ---- Rounds that change nothing
module _ (s : Section) where
  after_turn : (n j : ℕ) → j < proof_total s → get_or (after_rounds s (suc n)) j 0 ≡ turn s (suc n) (after_rounds s n) j
  unfolding after_rounds
  after_turn n j l =
      let e : 0 + j ≡ j = omega arith in
      turns_at s (after_rounds s n) (suc n) (proof_total s) 0 j l ∙ ap (turn s (suc n) (after_rounds s n)) e

  -- after n rounds no number is above n
  after_inside : (n j : ℕ) → j < proof_total s → get_or (after_rounds s n) j 0 ≤ n
  unfolding after_rounds
  after_inside zero j l = let none : ℕ = 0 in omega (arith, get_or-replicate (proof_total s) j none none l)
  after_inside (suc n) j l =
      subst (λ (m : ℕ). m ≤ suc n) (sym (after_turn n j l))
      (turn_cases s (suc n) (after_rounds s n) (λ m. m ≤ suc n) j (λ _. omega (arith, after_inside n j l)) (λ _. le_refl (suc n)) (λ _. omega arith))

  pub after_upto : (n j : ℕ) → get_or (after_rounds s n) j 0 ≤ n
  after_upto n j =
      ⊎_elim (after_inside n j)
      (λ l. omega (arith, get_or-eq_default (after_rounds s n) 0 {n = j} (omega (arith, after_length s n))))
      (order (suc j) (proof_total s))

  pub after_stays : (n : ℕ) → none_left (after_rounds s n) ≡ true → after_rounds s (suc n) ≡ after_rounds s n
  unfolding is_marked
  after_stays n e =
      ext_get_or 0 _ _ (after_length s (suc n) ∙ sym (after_length s n)) (λ j l.
      let here : j < proof_total s = omega (arith, after_length s (suc n)) in
      let marked : is_marked (after_rounds s n) j ≡ true = ap not (ne_eqb _ 0 (none_left_lem _ e j (omega (arith, after_length s n)))) in
      after_turn n j here
      ∙ turn_cases s (suc n) (after_rounds s n) (λ m. m ≡ get_or (after_rounds s n) j 0) j
      (λ _. refl) (λ b. absurd (clash marked b)) (λ b. absurd (clash marked b)))

  pub rounds_stay : (k n : ℕ) → none_left (after_rounds s n) ≡ true → after_rounds s (k + n) ≡ after_rounds s n
  rounds_stay zero n e = ap (after_rounds s) (omega arith)
  rounds_stay (suc k) n e =
      let same : after_rounds s (k + n) ≡ after_rounds s n = rounds_stay k n e in
      let next : suc k + n ≡ suc (k + n) = omega arith in
      ap (after_rounds s) next ∙ after_stays (k + n) (ap none_left same ∙ e) ∙ same
