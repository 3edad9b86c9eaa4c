-- The fields of records as words: each field is a word, and a text or a digest stands there by its place. Where a record starts is
-- given, and nothing is asked of it but that it is whole. proofs/Read.antt: the words of a record that was read are its fields.
use Rattle.std.specs.Prelude.{ℕ, zero, suc, ◌+◌, ◌-◌, ◌*◌, ◌≡◌, Bool, true, cond, ◌&&◌, List, [], ◌∷◌, ◌++◌, leb, length}
use Rattle.local_format.specs.Field.{le}
use Rattle.lent_table.specs.Lent.{lent}
use Rattle.evr0_section.specs.Head.{witness_size}

-- n fields of 4 bytes, one after the other
unfoldable pub fields : ℕ → List ℕ → ℕ → List ℕ
fields zero s at = []
fields (suc n) s at = le 4 s at ∷ fields n s (at + 4)

-- ---- A record of so many fields, a text, and so many fields

-- the place after its text
abbrev pub after_text : ℕ → List ℕ → ℕ → ℕ
after_text front s at = at + 4 * front + 2 + le 2 s (at + 4 * front)

unfoldable pub text_whole : ℕ → ℕ → List ℕ → ℕ → Bool
text_whole front back s at = leb (after_text front s at + 4 * back) (length s)

-- the text as the place of its bytes and their number
unfoldable pub text_words : ℕ → ℕ → List ℕ → ℕ → List ℕ
text_words front back s at =
    fields front s at ++ ((at + 4 * front + 2) ∷ le 2 s (at + 4 * front) ∷ fields back s (after_text front s at))

-- ---- A witness whose span's ends have a width, each digest as the place of its bytes

unfoldable pub witness_whole : ℕ → List ℕ → ℕ → Bool
witness_whole width s at = leb (at + witness_size width) (length s)

unfoldable pub span_words : ℕ → List ℕ → ℕ → List ℕ
span_words width s at = le width s at ∷ le width s (at + width) ∷ []

unfoldable pub witness_words : ℕ → List ℕ → ℕ → List ℕ
witness_words width s at = fields 3 s at ++ ((at + 12) ∷ (span_words width s (at + 44) ++ ((at + 44 + 2 * width) ∷ [])))

-- ---- Records that start at given places

unfoldable pub all_whole : (ℕ → Bool) → List ℕ → Bool
all_whole whole [] = true
all_whole whole (at ∷ ats) = whole at && all_whole whole ats

unfoldable pub all_words : (ℕ → List ℕ) → List ℕ → List ℕ
all_words words [] = []
all_words words (at ∷ ats) = words at ++ all_words words ats

-- ---- A lent table of words

-- whether all records are whole and their words fit
abbrev pub fits : (ℕ → Bool) → (ℕ → List ℕ) → List ℕ → List ℕ → Bool
fits whole words starts table = all_whole whole starts && leb (length (all_words words starts)) (length table)

-- what a call leaves: the words of all records and zeros past them; or zeros
pub record Fills (whole : ℕ → Bool) (words : ℕ → List ℕ) (starts before after : List ℕ) (r : Bool) : Type 0 where
  pub answer : r ≡ fits whole words starts before
  pub table : after ≡ lent (length before) (cond (fits whole words starts before) (all_words words starts) [])

-- the same of fields that follow each other, as many as the table has words
pub record Runs (s : List ℕ) (at : ℕ) (before after : List ℕ) (r : Bool) : Type 0 where
  pub answer : r ≡ leb (4 * length before) (length s - at)
  pub table : after ≡ lent (length before) (cond (leb (4 * length before) (length s - at)) (fields (length before) s at) [])
