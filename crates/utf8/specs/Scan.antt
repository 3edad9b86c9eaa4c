-- What the scan of a text tells: its number of characters and whether one is a control character.
use Rattle.std.specs.Prelude.{ℕ, ◌+◌, List, [], ◌∷◌, Bool, true, cond, ◌||◌, ◌&&◌, length, get_or, take, drop, leb, ltb}
use Rattle.utf8.specs.Utf8.{Decoded, points, ill, decode, any_control}

pub data Scanned : Type 0 where
  text : ℕ → Bool → Scanned
  not_utf8 : Scanned

abbrev pub scan_of : Decoded → Scanned
scan_of (points cs) = text (length cs) (any_control cs)
scan_of ill = not_utf8

-- bytes at a place: what they are and the place after them, or cut where they pass the end
pub data Utf8 : Type 0 where
  whole : Scanned → ℕ → Utf8
  cut : Utf8

unfoldable pub utf8_at : List ℕ → ℕ → ℕ → Utf8
utf8_at s at len = cond (leb (at + len) (length s)) (whole (scan_of (decode (take len (drop at s)))) (at + len)) cut

-- ---- How the scan gets there

-- some characters, with a control character among them or not, before a text
abbrev pub joined : ℕ → Bool → Scanned → Scanned
joined n c (text m d) = text (n + m) (c || d)
joined n c not_utf8 = not_utf8

-- the printable characters of ASCII
unfoldable pub printable : ℕ → Bool
printable b = leb 0x20 b && leb b 0x7E

unfoldable pub all_printable : List ℕ → Bool
all_printable [] = true
all_printable (b ∷ s) = printable b && all_printable s

-- a byte between two bounds stands at a place
unfoldable pub later_at : ℕ → ℕ → List ℕ → ℕ → Bool
later_at low high s at = ltb at (length s) && (leb low (get_or s at 0) && leb (get_or s at 0) high)
