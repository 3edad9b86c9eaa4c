-- The source set of a lock by its words: the 32 bytes are the same exactly where four words are, since a word below 2^64 is read back from its eight
-- bytes.
use mathlib.Core.Path.{◌≡◌, refl, ap, sym, ◌∙◌}
use Prim.Native.Nat.{ℕ, ◌+◌, ◌*◌, ◌/◌, ◌%◌, ◌<◌}
use native.Mathlib.Omega.{arith}
use mathlib.Core.List.{List, [], ◌∷◌}
use mathlib.Core.Bool.{Bool, true, false, ◌&&◌}
use lib.Dec.{eqb}
use lib.ListN.{length, get_or, take, drop}
use lib.Pointwise.{pointwise}
use lib.Seq.{drop-cons}
use borrow.Author.Tests.{eqb-true, eqb-false}
use Rattle.local_format.specs.Tag.{equal}
use Rattle.lock_rules.proofs.RootLaws.{equal_self, equal_is}
use Rattle.lock_words.specs.Words.{source_of, source_in}

-- four bytes, and eight, at a place: lowest first
abbrev four : List ℕ → ℕ → ℕ
four s at = get_or s at 0 + 256 * get_or s (at + 1) 0 + 65536 * get_or s (at + 2) 0 + 16777216 * get_or s (at + 3) 0

abbrev eight : List ℕ → ℕ → ℕ
eight s at = four s at + 4294967296 * four s (at + 4)

low_two : (h : ℕ) → h % 256 + 256 * (h / 256 % 256) ≡ h % 65536
low_two h = omega arith

high_two : (h : ℕ) → h < 4294967296 → h / 65536 % 256 + 256 * (h / 16777216 % 256) ≡ h / 65536
high_two h l = omega arith

join : (h : ℕ) → h % 65536 + 65536 * (h / 65536) ≡ h
join h = omega arith

sum : (p q r s x y h : ℕ) → p + 256 * q ≡ x → r + 256 * s ≡ y → x + 65536 * y ≡ h → p + 256 * q + 65536 * r + 16777216 * s ≡ h
sum p q r s x y h a b c = omega arith

half : (h : ℕ) → h < 4294967296 → h % 256 + 256 * (h / 256 % 256) + 65536 * (h / 65536 % 256) + 16777216 * (h / 16777216 % 256) ≡ h
half h l =
    sum (h % 256) (h / 256 % 256) (h / 65536 % 256) (h / 16777216 % 256) (h % 65536) (h / 65536) h (low_two h) (high_two h l) (join h)

both : (w : ℕ) → w < 18446744073709551616 → w % 4294967296 + 4294967296 * (w / 4294967296) ≡ w
both w l = omega arith

low : (w : ℕ) → w % 4294967296 < 4294967296
low w = omega arith

high : (w : ℕ) → w < 18446744073709551616 → w / 4294967296 < 4294967296
high w l = omega arith

module _ (a b c d : ℕ) where
  first : a < 18446744073709551616 → eight (source_of a b c d) 0 ≡ a
  unfolding source_of
  first l = rw (half (a % 4294967296) (low a), half (a / 4294967296) (high a l)) (both a l)

  second : b < 18446744073709551616 → eight (source_of a b c d) 8 ≡ b
  unfolding source_of
  second l = rw (half (b % 4294967296) (low b), half (b / 4294967296) (high b l)) (both b l)

  third : c < 18446744073709551616 → eight (source_of a b c d) 16 ≡ c
  unfolding source_of
  third l = rw (half (c % 4294967296) (low c), half (c / 4294967296) (high c l)) (both c l)

  fourth : d < 18446744073709551616 → eight (source_of a b c d) 24 ≡ d
  unfolding source_of
  fourth l = rw (half (d % 4294967296) (low d), half (d / 4294967296) (high d l)) (both d l)

module _ (x y : List ℕ) where
  -- sets that differ in a number that is read off them
  other : (read : List ℕ → ℕ) → (read (source_in x) ≡ read (source_in y) → ⊥) → false ≡ equal (source_in x) (source_in y)
  other read d = go (equal (source_in x) (source_in y)) refl
    where
      go : (b : Bool) → equal (source_in x) (source_in y) ≡ b → false ≡ b
      go true e = absurd (d (ap read (equal_is (source_in x) (source_in y) e)))
      go false e = refl

  first_other : get_or x 4 0 < 18446744073709551616 → get_or y 4 0 < 18446744073709551616 → (get_or x 4 0 ≡ get_or y 4 0 → ⊥)
      → false ≡ equal (source_in x) (source_in y)
  unfolding source_in
  first_other l m d = other (λ s. eight s 0) (λ e. d (sym (first _ _ _ _ l) ∙ e ∙ first _ _ _ _ m))

  second_other : get_or x 5 0 < 18446744073709551616 → get_or y 5 0 < 18446744073709551616 → (get_or x 5 0 ≡ get_or y 5 0 → ⊥)
      → false ≡ equal (source_in x) (source_in y)
  unfolding source_in
  second_other l m d = other (λ s. eight s 8) (λ e. d (sym (second _ _ _ _ l) ∙ e ∙ second _ _ _ _ m))

  third_other : get_or x 6 0 < 18446744073709551616 → get_or y 6 0 < 18446744073709551616 → (get_or x 6 0 ≡ get_or y 6 0 → ⊥)
      → false ≡ equal (source_in x) (source_in y)
  unfolding source_in
  third_other l m d = other (λ s. eight s 16) (λ e. d (sym (third _ _ _ _ l) ∙ e ∙ third _ _ _ _ m))

  fourth_other : get_or x 7 0 < 18446744073709551616 → get_or y 7 0 < 18446744073709551616 → (get_or x 7 0 ≡ get_or y 7 0 → ⊥)
      → false ≡ equal (source_in x) (source_in y)
  unfolding source_in
  fourth_other l m d = other (λ s. eight s 24) (λ e. d (sym (fourth _ _ _ _ l) ∙ e ∙ fourth _ _ _ _ m))

  source_same : get_or x 4 0 ≡ get_or y 4 0 → get_or x 5 0 ≡ get_or y 5 0 → get_or x 6 0 ≡ get_or y 6 0 → get_or x 7 0 ≡ get_or y 7 0
      → true ≡ equal (source_in x) (source_in y)
  unfolding source_in
  source_same p q r t = rw (p, q, r, t) (sym (equal_self (source_of (get_or y 4 0) (get_or y 5 0) (get_or y 6 0) (get_or y 7 0))))

-- four words of a lock
words_of : (s : List ℕ) → length s ≡ 24 → take 4 (drop 4 s) ≡ get_or s 4 0 ∷ get_or s 5 0 ∷ get_or s 6 0 ∷ get_or s 7 0 ∷ []
words_of s l =
    rw (drop-cons s 4 0 (omega arith), drop-cons s 5 0 (omega arith), drop-cons s 6 0 (omega arith), drop-cons s 7 0 (omega arith)) refl

module _ (x y : List ℕ) (fits : (i : ℕ) → get_or x i 0 < 18446744073709551616) (fits' : (i : ℕ) → get_or y i 0 < 18446744073709551616) where
  decided : (p q r t : Bool) → eqb (get_or x 4 0) (get_or y 4 0) ≡ p → eqb (get_or x 5 0) (get_or y 5 0) ≡ q
      → eqb (get_or x 6 0) (get_or y 6 0) ≡ r → eqb (get_or x 7 0) (get_or y 7 0) ≡ t
      → (p && (q && (r && (t && true)))) ≡ equal (source_in x) (source_in y)
  decided true true true true a b c d = source_same x y (eqb-true _ _ a) (eqb-true _ _ b) (eqb-true _ _ c) (eqb-true _ _ d)
  decided false q r t a b c d = first_other x y (fits 4) (fits' 4) (eqb-false _ _ a)
  decided true false r t a b c d = second_other x y (fits 5) (fits' 5) (eqb-false _ _ b)
  decided true true false t a b c d = third_other x y (fits 6) (fits' 6) (eqb-false _ _ c)
  decided true true true false a b c d = fourth_other x y (fits 7) (fits' 7) (eqb-false _ _ d)

  -- they are the same exactly where the sets are
  pub words_decide : length x ≡ 24 → length y ≡ 24 → pointwise eqb (take 4 (drop 4 x)) (take 4 (drop 4 y)) ≡ equal (source_in x) (source_in y)
  words_decide l m = rw (words_of x l, words_of y m) (decided _ _ _ _ refl refl refl refl)
