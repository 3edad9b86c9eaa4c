-- Fixed byte strings, compared at a place: the tags and the rules' names.
use Rattle.std.specs.Prelude.{ℕ, ◌+◌, List, [], ◌∷◌, Bool, true, false, ◌&&◌, length, take, drop, eqb, leb}

-- whether two lists of bytes are the same
unfoldable pub equal : List ℕ → List ℕ → Bool
equal [] [] = true
equal [] (y ∷ ys) = false
equal (x ∷ xs) [] = false
equal (x ∷ xs) (y ∷ ys) = eqb x y && equal xs ys

-- whether the tag's bytes stand at a place, whole
unfoldable pub tag_at : List ℕ → List ℕ → ℕ → Bool
tag_at tag s at = leb (at + length tag) (length s) && equal (take (length tag) (drop at s)) tag

-- "EVR0"
abbrev pub evr0 : List ℕ
evr0 = 0x45 ∷ 0x56 ∷ 0x52 ∷ 0x30 ∷ []

-- "DBG0"
abbrev pub dbg0 : List ℕ
dbg0 = 0x44 ∷ 0x42 ∷ 0x47 ∷ 0x30 ∷ []

-- "OWN0"
abbrev pub own0 : List ℕ
own0 = 0x4F ∷ 0x57 ∷ 0x4E ∷ 0x30 ∷ []

-- "SIG0"
abbrev pub sig0 : List ℕ
sig0 = 0x53 ∷ 0x49 ∷ 0x47 ∷ 0x30 ∷ []

-- "POS-WITNESS-1"
abbrev pub pos_witness : List ℕ
pos_witness = 0x50 ∷ 0x4F ∷ 0x53 ∷ 0x2D ∷ 0x57 ∷ 0x49 ∷ 0x54 ∷ 0x4E ∷ 0x45 ∷ 0x53 ∷ 0x53 ∷ 0x2D ∷ 0x31 ∷ []

-- "NEG-WITNESS-1"
abbrev pub neg_witness : List ℕ
neg_witness = 0x4E ∷ 0x45 ∷ 0x47 ∷ 0x2D ∷ 0x57 ∷ 0x49 ∷ 0x54 ∷ 0x4E ∷ 0x45 ∷ 0x53 ∷ 0x53 ∷ 0x2D ∷ 0x31 ∷ []

-- "JOIN-SAME-P-1"
abbrev pub join_same_p : List ℕ
join_same_p = 0x4A ∷ 0x4F ∷ 0x49 ∷ 0x4E ∷ 0x2D ∷ 0x53 ∷ 0x41 ∷ 0x4D ∷ 0x45 ∷ 0x2D ∷ 0x50 ∷ 0x2D ∷ 0x31 ∷ []

-- "OP-T-ONLY-1"
abbrev pub op_t_only : List ℕ
op_t_only = 0x4F ∷ 0x50 ∷ 0x2D ∷ 0x54 ∷ 0x2D ∷ 0x4F ∷ 0x4E ∷ 0x4C ∷ 0x59 ∷ 0x2D ∷ 0x31 ∷ []
