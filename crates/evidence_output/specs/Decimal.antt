-- Decimal numerals: the one of each number, and what it is to be one.
use Rattle.std.specs.Prelude.{ℕ, zero, suc, ◌+◌, ◌-◌, ◌*◌, ◌/◌, ◌%◌, ◌≤◌, ◌<◌, ◌≡◌, List, [], ◌∷◌, ◌++◌, cond, ltb}

-- the digit of a number below 10
abbrev pub digit : ℕ → ℕ
digit n = 0x30 + n

-- the digits of a number below `bound`, the highest first
unfoldable pub digits_below : ℕ → ℕ → List ℕ
digits_below zero n = []
digits_below (suc bound) n =
    let front : List ℕ = digits_below bound (n / 10) in
    cond (ltb n 10) [] front ++ (digit (n % 10) ∷ [])

unfoldable pub decimal : ℕ → List ℕ
decimal n = digits_below (suc n) n

-- ---- What a numeral is

pub data Digits : List ℕ → Type 0 where
  none : Digits []
  also : {d : ℕ} {ds : List ℕ} → 0x30 ≤ d → d ≤ 0x39 → Digits ds → Digits (d ∷ ds)

-- the number that digits stand for, after digits that stand for n
unfoldable pub value_after : ℕ → List ℕ → ℕ
value_after n [] = n
value_after n (d ∷ ds) = value_after (10 * n + (d - 0x30)) ds

-- no leading zero: one digit, or a first digit that is not 0
pub data Leads : List ℕ → Type 0 where
  alone : {d : ℕ} → Leads (d ∷ [])
  first : {d : ℕ} {ds : List ℕ} → 0x30 < d → Leads (d ∷ ds)

pub record Numeral (n : ℕ) (ds : List ℕ) : Type 0 where
  pub digits : Digits ds
  pub leads : Leads ds
  pub value : value_after 0 ds ≡ n
