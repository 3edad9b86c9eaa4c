-- What UTF-8 means: the scalar values and the encoding of each (the Unicode Standard, D76 and Table 3-6).
use Rattle.std.specs.Prelude.{ℕ, ◌+◌, ◌/◌, ◌%◌, ◌≤◌, ◌⊎◌, List, [], ◌∷◌, ◌++◌, cond, leb}

-- 0 to D7FF and E000 to 10FFFF
abbrev pub Scalar : ℕ → Type 0
Scalar c = (c ≤ 0xD7FF) ⊎ ((0xE000 ≤ c) × (c ≤ 0x10FFFF))

pub data Scalars : List ℕ → Type 0 where
  none : Scalars []
  also : {c : ℕ} {cs : List ℕ} → Scalar c → Scalars cs → Scalars (c ∷ cs)

-- a later byte: six bits under the marker 10
abbrev pub later : ℕ → ℕ
later x = 0x80 + x % 64

unfoldable pub encode : ℕ → List ℕ
encode c =
    cond (leb c 0x7F) (c ∷ [])
    (cond (leb c 0x7FF) ((0xC0 + c / 64) ∷ later c ∷ [])
    (cond (leb c 0xFFFF) ((0xE0 + c / 4096) ∷ later (c / 64) ∷ later c ∷ [])
    ((0xF0 + c / 262144) ∷ later (c / 4096) ∷ later (c / 64) ∷ later c ∷ [])))

-- the encodings of some code points, one after the other
unfoldable pub encodings : List ℕ → List ℕ
encodings [] = []
encodings (c ∷ cs) = encode c ++ encodings cs
