-- Heads and blocks that cover some bytes, each once. Document 02, Slip 1.
use Rattle.std.specs.Prelude.{ℕ, ◌+◌, ◌-◌, ◌≤◌, ◌<◌, ◌≡◌, List, [], ◌∷◌, length, get_or}
use Rattle.semcode_records.specs.Records.{Entry}
use Rattle.semcode_functions.specs.Function.{Function}

-- so many bytes from a place on
pub record Stretch : Type 0 where
  pub start : ℕ
  pub len : ℕ

abbrev pub nowhere : Stretch
nowhere = record { start = 0; len = 0 }

-- each function's head and its block, in the file's order
unfoldable pub stretches : List (Entry Function) → List Stretch
stretches [] = []
stretches (f ∷ fs) =
    record { start = f.start; len = f.value.head.code - f.start }
    ∷ record { start = f.value.head.code; len = f.value.head.size }
    ∷ stretches fs

pub record In (x : Stretch) (p : ℕ) : Type 0 where
  pub from : x.start ≤ p
  pub upto : p < x.start + x.len

-- exactly one of them has the byte
pub record One (xs : List Stretch) (p : ℕ) : Type 0 where
  pub number : ℕ
  pub there : number < length xs
  pub has : In (get_or xs number nowhere) p
  pub only : (i : ℕ) → i < length xs → In (get_or xs i nowhere) p → i ≡ number

pub record Covered (xs : List Stretch) (from to : ℕ) : Type 0 where
  pub each : (p : ℕ) → from ≤ p → p < to → One xs p
  -- and nothing else
  pub within : (i : ℕ) → i < length xs → (p : ℕ) → In (get_or xs i nowhere) p → (from ≤ p) × (p < to)
