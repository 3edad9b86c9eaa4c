-- How many words a record has: theorems that the code's kinds of records keep.
use Rattle.std.specs.Prelude.{ℕ, zero, suc, ◌+◌, ◌≡◌, refl, List, length}
use mathlib.Core.Path.{ap}
use native.Mathlib.Omega.{arith}
use lib.ListN.{length-append}
use Rattle.record_words.specs.Words.{fields, text_words, witness_words, span_words}

pub length_fields : (n : ℕ) (s : List ℕ) (at : ℕ) → length (fields n s at) ≡ n
unfolding fields
length_fields zero s at = refl
length_fields (suc n) s at = ap suc (length_fields n s (at + 4))

pub text_size : (front back : ℕ) (s : List ℕ) (at : ℕ) → length (text_words front back s at) ≡ front + 2 + back
unfolding text_words
text_size front back s at = simp (length-append, length_fields) (omega arith)

pub witness_words_size : (width : ℕ) (s : List ℕ) (at : ℕ) → length (witness_words width s at) ≡ 7
unfolding witness_words span_words
witness_words_size width s at = simp (length-append, length_fields)
