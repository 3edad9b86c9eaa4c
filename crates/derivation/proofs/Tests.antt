-- Tests and ranges: what a test of two parts says, which of two numbers is the greater, and what holds of each number of a range.
use Prim.Native.Nat.{ℕ, suc, ◌≤◌, ◌<◌}
use mathlib.Core.Path.{◌≡◌, refl, subst}
use mathlib.Core.Logic.{◌⊎◌, inl, inr, ⊎_elim}
use mathlib.Core.Bool.{Bool, true, false, ◌&&◌, ◌||◌}
use native.Mathlib.Nat.{lt_of_not-le}
use native.Mathlib.Decide.{dec_le}
use native.Mathlib.Omega.{arith}
use Rattle.derivation.specs.Section.{Within}

pub both : (a b : Bool) → (a && b) ≡ true → (a ≡ true) × (b ≡ true)
both true b e = (refl, e)
both false b e = (e, cc)

pub both_true : (a b : Bool) → a ≡ true → b ≡ true → (a && b) ≡ true
both_true true b p q = q
both_true false b p q = p

pub either : (a b : Bool) → (a || b) ≡ true → (a ≡ true) ⊎ (b ≡ true)
either true b e = inl refl
either false b e = inr e

pub first_true : (a b : Bool) → a ≡ true → (a || b) ≡ true
first_true true b e = refl
first_true false b e = cc

pub second_true : (a b : Bool) → b ≡ true → (a || b) ≡ true
second_true true b e = refl
second_true false b e = e

pub by_test : (b : Bool) → (b ≡ false → ⊥) → b ≡ true
by_test true h = refl
by_test false h = absurd (h refl)

pub order : (a b : ℕ) → (a ≤ b) ⊎ (b < a)
order a b = elim (dec_le a b) [ yes h ↦ inl h | no h ↦ inr (lt_of_not-le h) ]

-- what holds at c, and at each of the k numbers after it
pub at_or_after : (P : ℕ → Type 0) (c k : ℕ) → P c → ((e : ℕ) → Within (suc c) k e → P e) → (d : ℕ) → Within c (suc k) d → P d
at_or_after P c k here rest d o =
    ⊎_elim
    (λ g. let e : c ≡ d = omega arith in subst P e here)
    (λ g. rest d (record { from = g; upto = omega arith }))
    (order d c)
