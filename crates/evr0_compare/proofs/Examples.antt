-- A pair that has each verdict, by computing: kinds, owners and scopes are the same, and the types differ.
use Prim.Native.Nat.{ℕ}
use mathlib.Core.Path.{◌≡◌, refl}
use mathlib.Core.Bool.{Bool, true, false}
use mathlib.Core.List.{List, [], ◌∷◌}
use Rattle.evr0_section.specs.Proposition.{compare, compare_bytes, compare_keys}
use Rattle.evr0_compare.specs.Compare.{Standing, against, compared, total, codes, tally_of}

abbrev standing : ℕ → Bool → Standing
standing type authorised = record { key = record { kind = 107 ∷ []; owner = 1; scope = 2; type = type }; authorised = authorised }

abbrev first : List Standing
first = standing 0 true ∷ standing 1 true ∷ standing 2 false ∷ standing 5 false ∷ []

abbrev second : List Standing
second = standing 0 true ∷ standing 1 false ∷ standing 3 true ∷ standing 5 false ∷ standing 6 true ∷ []

pub each_verdict : codes (compared first second) ≡ 1 ∷ 2 ∷ 3 ∷ 4 ∷ 1 ∷ 4 ∷ []
unfolding compared against compare compare_bytes compare_keys
each_verdict = refl

-- Kept (8d): an example of the definition, for readers.
pub its_totals : tally_of (compared first second) ≡ record { agreed = 2; contradicted = 1; first_only = 1; second_only = 2 }
unfolding compared against total compare compare_bytes compare_keys
its_totals = refl
