-- A record by its number: it is there exactly where the number is below the table's length. By induction on the table.
use Prim.Native.Nat.{ℕ, zero, suc, ◌≤◌, ◌<◌}
use mathlib.Core.Path.{◌≡◌, refl, ap}
use mathlib.Core.List.{List, [], ◌∷◌, map}
use native.Mathlib.Omega.{arith}
use lib.ListN.{length, get_or}
use Rattle.local_format.specs.Out.{ok}
use Rattle.local_format.specs.Number.{not_in_table, numbered}
use Rattle.local_format.proofs.OutLaws.{ok_same, never}

module _ {A : Type 0} where
  pub not_there_lem : (i : ℕ) (xs : List A) → length xs ≤ i → numbered i xs ≡ not_in_table
  unfolding numbered
  not_there_lem i [] h = refl
  not_there_lem zero (x ∷ xs) h = absurd (omega arith)
  not_there_lem (suc i) (x ∷ xs) h = not_there_lem i xs (omega arith)

  pub is_there : (i : ℕ) (xs : List A) → i < length xs → (x : A) × (numbered i xs ≡ ok x)
  unfolding numbered
  is_there i [] h = absurd (omega arith)
  is_there zero (x ∷ xs) h = (x, refl)
  is_there (suc i) (x ∷ xs) h = is_there i xs (omega arith)

  pub there_map : {B : Type 0} (f : A → B) (d : B) (xs : List A) (i : ℕ) {x : A} → numbered i xs ≡ ok x → get_or (map f xs) i d ≡ f x
  unfolding numbered
  there_map f d [] i e = absurd (never e)
  there_map f d (x ∷ xs) zero e = ap f (ok_same e)
  there_map f d (x ∷ xs) (suc i) e = there_map f d xs i e
