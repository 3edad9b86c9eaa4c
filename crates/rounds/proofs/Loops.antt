-- The rounds by one step, in the terms of the code's loops: k are left, and then k - 1; a round from the first unmarked proof on; the rounds until
-- none is left.
use Prim.Native.Nat.{ℕ, zero, suc, ◌+◌, ◌-◌, ◌≤◌, ◌<◌}
use mathlib.Core.Path.{◌≡◌, refl, sym, ap, ◌∙◌}
use mathlib.Core.Bool.{Bool, true, false}
use mathlib.Core.List.{List}
use native.Mathlib.Omega.{arith}
use native.Mathlib.Numerals.{add-one, sub-one}
use lib.ListN.{length, get_or, set, replicate}
use borrow.Author.Tests.{ne_eqb}
use Rattle.local_format.specs.Refusal.{Refusal}
use Rattle.local_format.specs.Out.{ok, refused}
use Rattle.derivation.specs.Section.{Section, proof_at, parent_at, proof_total}
use Rattle.derivation.proofs.Tests.{by_test}
use Rattle.rounds.specs.Rounds.{is_marked, turn, turns, after_rounds, none_left, kin_of, kin_from}
use Rattle.rounds.specs.InPlace.{was_marked, were_marked, turn_in}
use Rattle.rounds.proofs.Rounds.{turns_at}
use Rattle.rounds.proofs.Methods.{none_left_lem, some_left}
use Rattle.rounds.proofs.InPlace.{partly, partly_all, partly_marked, partly_next, rounds_stay}

-- ---- 25 and 26 of each proof
module _ (cells_at : ℕ) (s : Section) where
  pub kin_none : (n i : ℕ) → n ≤ 0 → kin_from cells_at s n i ≡ ok tt
  unfolding kin_from
  kin_none zero i h = refl
  kin_none (suc n) i h = absurd (omega arith)

  pub kin_refused : (n i : ℕ) (r : Refusal) → 0 < n → kin_of cells_at s (proof_at s i) ≡ refused r → kin_from cells_at s n i ≡ refused r
  unfolding kin_from
  kin_refused zero i r h e = absurd (omega arith)
  kin_refused (suc n) i r h e = rw e

  pub kin_turn : (n i : ℕ) → 0 < n → kin_of cells_at s (proof_at s i) ≡ ok tt → kin_from cells_at s n i ≡ kin_from cells_at s (n - 1) (i + 1)
  unfolding kin_from
  kin_turn zero i h e = absurd (omega arith)
  kin_turn (suc n) i h e = rw (e, sub-one, add-one)

-- ---- The parents of a proof
module _ (s : Section) (r : ℕ) (t : List ℕ) where
  pub were_none : (k c : ℕ) → k ≤ 0 → were_marked s r t k c ≡ true
  unfolding were_marked
  were_none zero c h = refl
  were_none (suc k) c h = absurd (omega arith)

  -- a parent that is unmarked, or marked in this round
  pub were_not : (k c : ℕ) → 0 < k → was_marked r t (parent_at s c) ≡ false → were_marked s r t k c ≡ false
  unfolding were_marked
  were_not zero c h e = absurd (omega arith)
  were_not (suc k) c h e = simp e

  pub were_turn : (k c : ℕ) → 0 < k → was_marked r t (parent_at s c) ≡ true → were_marked s r t k c ≡ were_marked s r t (k - 1) (c + 1)
  unfolding were_marked
  were_turn zero c h e = absurd (omega arith)
  were_turn (suc k) c h e = simp (e, sub-one, add-one)

-- ---- A round, from the first unmarked proof on
module _ (s : Section) (r : ℕ) (ms : List ℕ) where
  pub round_starts : (first : ℕ) → first ≤ length ms → ((j : ℕ) → j < first → get_or ms j 0 ≡ 0 → ⊥) → ms ≡ partly s r ms first
  round_starts first l marked = sym (partly_marked s r ms first l marked)

  pub round_turns : (i m : ℕ) (t : List ℕ) → ((j : ℕ) → get_or ms j 0 < r) → i < length ms → t ≡ partly s r ms i → m ≡ turn_in s r t i
      → set t i m ≡ partly s r ms (i + 1)
  round_turns i m t earlier l e k = rw (k, e, add-one) (partly_next s r ms earlier i l)

  pub round_ends : (i n : ℕ) (t : List ℕ) → length ms ≡ n → n ≡ i → t ≡ partly s r ms i → t ≡ turns s r ms n 0
  round_ends i n t l h e = e ∙ ap (partly s r ms) (sym (l ∙ h)) ∙ partly_all s r ms ∙ ap (λ (n : ℕ). turns s r ms n 0) l

  -- what was marked stays so
  pub stays_marked : (n j : ℕ) (t : List ℕ) → t ≡ turns s r ms n 0 → j < n → (get_or ms j 0 ≡ 0 → ⊥) → get_or t j 0 ≡ 0 → ⊥
  unfolding turn is_marked
  stays_marked n j t e l m z =
      let k : 0 + j ≡ j = omega arith in
      let same : turn s r ms j ≡ get_or ms j 0 = rw (ne_eqb (get_or ms j 0) 0 m) in
      m (sym same ∙ sym (turns_at s ms r n 0 j l ∙ ap (turn s r ms) k) ∙ ap (λ (t : List ℕ). get_or t j 0) (sym e) ∙ z)

-- ---- The rounds, until none is left or 256 are done
module _ (s : Section) where
  pub no_round : (n : ℕ) → proof_total s ≡ n → replicate n 0 ≡ after_rounds s 0
  unfolding after_rounds
  no_round n e = rw e

  pub next_round : (n total : ℕ) (ms t : List ℕ) → proof_total s ≡ total → ms ≡ after_rounds s n → t ≡ turns s (n + 1) ms total 0 → t ≡ after_rounds s (n + 1)
  unfolding after_rounds
  next_round n total ms t k e h = h ∙ rw (← k, e, add-one)

  none_now : (ms : List ℕ) → ((j : ℕ) → j < length ms → get_or ms j 0 ≡ 0 → ⊥) → none_left ms ≡ true
  none_now ms h = by_test (none_left ms) (λ e. let u = some_left ms e in h u.0 u.1 u.2)

  some_now : (ms : List ℕ) (j : ℕ) → j < length ms → get_or ms j 0 ≡ 0 → none_left ms ≡ false
  some_now ms j l z = go (none_left ms) refl
    where
      go : (b : Bool) → none_left ms ≡ b → b ≡ false
      go true e = absurd (none_left_lem ms e j l z)
      go false e = refl

  -- all marked after n rounds
  pub all_marked : (n : ℕ) (ms : List ℕ) → n ≤ 256 → ms ≡ after_rounds s n → ((j : ℕ) → j < length ms → get_or ms j 0 ≡ 0 → ⊥)
      → (ms ≡ after_rounds s 256) × (none_left (after_rounds s 256) ≡ true)
  all_marked n ms l e h =
      let none : none_left ms ≡ true = none_now ms h in
      let d : 256 - n + n ≡ 256 = omega arith in
      let same : after_rounds s 256 ≡ ms = ap (after_rounds s) (sym d) ∙ rounds_stay s (256 - n) n (ap none_left (sym e) ∙ none) ∙ sym e in
      (sym same, ap none_left same ∙ none)

  -- one unmarked after 256
  pub one_unmarked : (ms : List ℕ) (j : ℕ) → ms ≡ after_rounds s 256 → j < length ms → get_or ms j 0 ≡ 0 → none_left (after_rounds s 256) ≡ false
  one_unmarked ms j e l z = ap none_left (sym e) ∙ some_now ms j l z
