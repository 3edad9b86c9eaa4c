-- A record by its number.
use Rattle.std.specs.Prelude.{ℕ, zero, suc, List, [], ◌∷◌}
use Rattle.local_format.specs.Out.{Out, ok, refuse, ◌>>=◌}

-- 62: a number that is not in the table
abbrev pub not_in_table : {A : Type 0} → Out A
not_in_table = refuse 62 0

unfoldable pub numbered : {A : Type 0} → ℕ → List A → Out A
numbered n [] = not_in_table
numbered zero (x ∷ xs) = ok x
numbered (suc n) (x ∷ xs) = numbered n xs

-- what was decoded anew, and what was asked of it
pub record Chosen (D A : Type 0) : Type 0 where
  pub decoded : D
  pub value : A

abbrev pub choose : {D A : Type 0} → (D → Out A) → Out D → Out (Chosen D A)
choose pick x = do
  d ← x
  a ← pick d
  ok (record { decoded = d; value = a })
