-- A refusal: its kind, number and offset. Document 01, "What the desk calls back"; from 63 on, document 02.
use Rattle.std.specs.Prelude.{ℕ, List, [], ◌∷◌, Bool, false, cond, ◌||◌, leb, eqb}

pub data Kind : Type 0 where
  invalid limit strings debug ownership added truncated name signature : Kind

-- whether a number is among these
unfoldable pub among : List ℕ → ℕ → Bool
among [] n = false
among (m ∷ ms) n = eqb n m || among ms n

-- the numbers that are limits
abbrev pub limits : List ℕ
limits = 3 ∷ 12 ∷ 14 ∷ 15 ∷ 27 ∷ 31 ∷ 36 ∷ 65 ∷ 73 ∷ []

-- the kind of each number: the limits, and the others by the part of the format that they speak of. One refusal with 71 has another kind
unfoldable pub kind_of : ℕ → Kind
kind_of n =
    cond (among limits n) limit
    (cond (leb n 29) invalid
    (cond (leb n 34) strings
    (cond (leb n 39) debug
    (cond (leb n 60) ownership
    (cond (leb n 62) added
    (cond (leb n 63) truncated
    (cond (leb n 64) name
    (cond (leb n 70) added
    (cond (leb n 72) signature added)))))))))

pub record Refusal : Type 0 where
  pub kind : Kind
  pub number : ℕ
  pub offset : ℕ

abbrev pub refusal : ℕ → ℕ → Refusal
refusal n at = record { kind = kind_of n; number = n; offset = at }
