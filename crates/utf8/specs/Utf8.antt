-- Well-formed UTF-8, as Table 3-7 of the Unicode Standard has it, its code points, and the control characters.
use Rattle.std.specs.Prelude.{ℕ, zero, suc, ◌+◌, ◌-◌, ◌*◌, ◌%◌, List, [], ◌∷◌, Bool, false, cond, ◌||◌, ◌&&◌, leb, eqb}

-- ---- Table 3-7

-- a row: the first and the last lead byte, the number of bytes that follow, the least and the greatest second byte, and the number that
-- divides the lead byte's marker off its bits. Each byte after the second lies in 80..BF
pub data Row : Type 0 where
  row : ℕ → ℕ → ℕ → ℕ → ℕ → ℕ → Row

unfoldable pub table : List Row
table =
    row 0x00 0x7F 0 0x00 0x00 128 ∷
    row 0xC2 0xDF 1 0x80 0xBF 32 ∷
    row 0xE0 0xE0 2 0xA0 0xBF 16 ∷
    row 0xE1 0xEC 2 0x80 0xBF 16 ∷
    row 0xED 0xED 2 0x80 0x9F 16 ∷
    row 0xEE 0xEF 2 0x80 0xBF 16 ∷
    row 0xF0 0xF0 3 0x90 0xBF 8 ∷
    row 0xF1 0xF3 3 0x80 0xBF 8 ∷
    row 0xF4 0xF4 3 0x80 0x8F 8 ∷ []

-- ---- One byte after the other

-- a character of which bytes are due: how many, the range of the next, and the bits so far
pub record Part : Type 0 where
  pub due : ℕ
  pub low : ℕ
  pub high : ℕ
  pub point : ℕ

-- what a byte makes of a part: a whole character, a part with fewer bytes due, or nothing well-formed
pub data Step : Type 0 where
  char : ℕ → Step
  more : Part → Step
  bad : Step

abbrev pub going : ℕ → ℕ → ℕ → ℕ → Step
going zero low high point = char point
going (suc due) low high point = more (record { due = suc due; low = low; high = high; point = point })

-- a lead byte: by the row that has it
unfoldable pub lead_of : List Row → ℕ → Step
lead_of [] b = bad
lead_of (row first last due low high top ∷ rows) b =
    cond (leb first b && leb b last) (going due low high (b % top)) (lead_of rows b)

-- a later byte brings six bits
unfoldable pub later_of : Part → ℕ → Step
later_of p b =
    cond (leb p.low b && leb b p.high) (going (p.due - 1) 0x80 0xBF (p.point * 64 + b % 64)) bad

-- none is due at a character's start
abbrev pub fresh : Part
fresh = record { due = 0; low = 0; high = 0; point = 0 }

unfoldable pub step_of : Part → ℕ → Step
step_of p b = cond (eqb p.due 0) (lead_of table b) (later_of p b)

-- ---- The code points of a text

pub data Decoded : Type 0 where
  points : List ℕ → Decoded
  ill : Decoded

abbrev pub onto : Step → Decoded → Decoded
onto (char c) (points cs) = points (c ∷ cs)
onto (char c) ill = ill
onto (more p) d = d
onto bad d = ill

abbrev pub after : Step → Part
after (char c) = fresh
after (more p) = p
after bad = fresh

-- what bytes after a part of a character are: ill-formed too where the last character is cut
unfoldable pub decode_from : Part → List ℕ → Decoded
decode_from p [] = cond (eqb p.due 0) (points []) ill
decode_from p (b ∷ s) = onto (step_of p b) (decode_from (after (step_of p b)) s)

unfoldable pub decode : List ℕ → Decoded
decode s = decode_from fresh s

-- ---- Control characters: U+0000 to U+001F and U+007F to U+009F
unfoldable pub is_control : ℕ → Bool
is_control c = leb c 0x1F || (leb 0x7F c && leb c 0x9F)

unfoldable pub any_control : List ℕ → Bool
any_control [] = false
any_control (c ∷ cs) = is_control c || any_control cs
