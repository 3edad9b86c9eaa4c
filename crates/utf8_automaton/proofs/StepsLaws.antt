-- The table holds the steps of the automaton: each state's next at its place, which is held against the automaton at each of the 256 bytes by computing.
use mathlib.Core.Path.{◌≡◌, refl, ap, sym, ◌∙◌}
use Prim.Native.Nat.{ℕ, zero, suc, ◌+◌, ◌/◌, ◌%◌, ◌^◌, ◌≤◌, ◌<◌}
use native.Mathlib.Omega.{arith}
use native.Mathlib.Numerals.{add-one}
use mathlib.Core.Logic.{inl, inr}
use mathlib.Core.List.{List}
use mathlib.Core.Bool.{Bool, true, ◌&&◌}
use borrow.Author.Tests.{eqb-true}
use lib.Dec.{eqb}
use lib.ListN.{length, get_or, drop, drop_of_length-le}
use lib.Seq.{drop-cons}
use Rattle.std.proofs.lemmas.Bool.{cases_eq}
use Rattle.utf8.specs.Utf8.{decode}
use Rattle.utf8.proofs.BoolLaws.{both}
use Rattle.utf8_automaton.specs.WellFormed.{is_points}
use Rattle.utf8_automaton.specs.declared.TheConstants.{STEPS}
use Rattle.utf8_automaton.proofs.AutomatonLaws.{State, lost, start, one, two, three, e0, ed, f0, f4, next, at_start, accepts, accepts_points}

abbrev pub place : State → ℕ
place lost = 0
place start = 6
place one = 12
place two = 18
place three = 24
place e0 = 30
place ed = 36
place f0 = 42
place f4 = 48

abbrev pub step : State → ℕ → ℕ
step t b = get_or STEPS b 0 / 2 ^ place t % 64

abbrev same_below : (ℕ → ℕ) → (ℕ → ℕ) → ℕ → Bool
same_below f g zero = true
same_below f g (suc n) = eqb (f n) (g n) && same_below f g n

same_at : (f g : ℕ → ℕ) (n : ℕ) → same_below f g n ≡ true → (b : ℕ) → b < n → f b ≡ g b
same_at f g zero h b l = absurd (omega arith)
same_at f g (suc n) h b l =
    let p = both (eqb (f n) (g n)) (same_below f g n) h in
    elim (cases_eq b n) [ inl same ↦ rw same (eqb-true (f n) (g n) p.0) | inr other ↦ same_at f g n p.1 b (omega arith) ]

computed : (t : State) → same_below (step t) (λ b. place (next t b)) 256 ≡ true
computed lost = refl
computed start = refl
computed one = refl
computed two = refl
computed three = refl
computed e0 = refl
computed ed = refl
computed f0 = refl
computed f4 = refl

pub step_is : (t : State) (b : ℕ) → b < 256 → step t b ≡ place (next t b)
step_is t b l = same_at (step t) (λ b. place (next t b)) 256 (computed t) b l

at_end : (t : State) → eqb (place t) 6 ≡ at_start t
at_end lost = refl
at_end start = refl
at_end one = refl
at_end two = refl
at_end three = refl
at_end e0 = refl
at_end ed = refl
at_end f0 = refl
at_end f4 = refl

-- ---- The walk

-- the six bits of the state stand for what is left, as the start for all
pub record Walks (s : List ℕ) (i state : ℕ) : Type 0 where
  pub t : State
  pub here : state % 64 ≡ place t
  pub left : accepts t (drop i s) ≡ accepts start s

pub walk_first : (s : List ℕ) → Walks s 0 (place start)
walk_first s = record { t = start; here = refl; left = refl }

module _ (s : List ℕ) (i state : ℕ) (inv : Walks s i state) where
  pub walk_on : i < length s → get_or s i 0 < 256 → (k : ℕ) → k ≡ state % 64 → Walks s (i + 1) (get_or STEPS (get_or s i 0) 0 / 2 ^ k)
  walk_on more byte k e = record {
    t = next inv.t (get_or s i 0);
    here = rw (e, inv.here) (step_is inv.t (get_or s i 0) byte);
    left = rw (add-one) (ap (accepts inv.t) (sym (drop-cons s i 0 more)) ∙ inv.left);
  }

  pub walk_end : length s ≤ i → eqb (state % 64) 6 ≡ is_points (decode s)
  walk_end h = rw inv.here (at_end inv.t ∙ ap (accepts inv.t) (sym (drop_of_length-le s {i = i} h)) ∙ inv.left ∙ accepts_points s)
