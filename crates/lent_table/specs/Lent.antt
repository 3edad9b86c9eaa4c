-- What a lent table holds.
use Rattle.std.specs.Prelude.{ℕ, ◌-◌, ◌≡◌, List, ◌++◌, length, replicate, take, drop}

-- a lent table with so many entries: the numbers, and zeros past them
abbrev pub lent : ℕ → List ℕ → List ℕ
lent entries xs = xs ++ replicate (entries - length xs) 0

-- the same of any type of entries, with its zero
abbrev pub lent_by : {X : Type 0} → X → ℕ → List X → List X
lent_by zero entries xs = xs ++ replicate (entries - length xs) zero

-- the table begins with these numbers
abbrev pub Front : List ℕ → List ℕ → Type 0
Front xs table = take (length xs) table ≡ xs

-- the numbers, and past them what stood there
abbrev pub laid : List ℕ → List ℕ → List ℕ
laid xs before = xs ++ drop (length xs) before
