-- The words of a source set: eight bytes make a word that has these bytes, and four words of eight bytes have the 32 of the set.
use mathlib.Core.Path.{◌≡◌, refl, ap, ap₂, sym, ◌∙◌}
use Prim.Native.Nat.{ℕ, zero, suc, ◌+◌, ◌*◌, ◌/◌, ◌%◌, ◌<◌, ◌≤◌}
use native.Mathlib.Omega.{arith}
use native.Mathlib.Numerals.{add-one}
use mathlib.Core.List.{List, [], ◌∷◌, ◌++◌}
use lib.ListN.{length, get_or, take, drop, length-append, length-take, length-drop}
use lib.Seq.{drop-cons, take_all}
use Rattle.local_format.specs.Field.{le}
use Rattle.std.specs.Int.{to_le_bytes}
use mir.Syntax.{w64}
use borrow.Rule.Slice.PartMut.{put_mid}
use Rattle.std.proofs.lemmas.Slice.{take-put_mid}
use Rattle.lock_words.specs.Maps.{source_is}
use Rattle.lock_words.specs.Words.{four_in, bytes_in, source_of}

lowest : (a x : ℕ) → a < 256 → (a + 256 * x) % 256 ≡ a
lowest a x h = omega arith

others : (a x : ℕ) → a < 256 → (a + 256 * x) / 256 ≡ x
others a x h = omega arith

twice : (h : ℕ) → h / 65536 ≡ h / 256 / 256
twice h = omega arith

thrice : (h : ℕ) → h / 16777216 ≡ h / 65536 / 256
thrice h = omega arith

four_bytes : (a b c d h : ℕ) → a < 256 → b < 256 → c < 256 → d < 256 → h ≡ a + 256 * (b + 256 * (c + 256 * d))
    → four_in h ≡ a ∷ b ∷ c ∷ d ∷ []
four_bytes a b c d h i j k l e =
    let p : h % 256 ≡ a = ap (λ (n : ℕ). n % 256) e ∙ lowest a (b + 256 * (c + 256 * d)) i in
    let x : h / 256 ≡ b + 256 * (c + 256 * d) = ap (λ (n : ℕ). n / 256) e ∙ others a (b + 256 * (c + 256 * d)) i in
    let y : h / 65536 ≡ c + 256 * d = twice h ∙ ap (λ (n : ℕ). n / 256) x ∙ others b (c + 256 * d) j in
    let z : h / 16777216 ≡ d = thrice h ∙ ap (λ (n : ℕ). n / 256) y ∙ others c d k in
    let q : h / 256 % 256 ≡ b = ap (λ (n : ℕ). n % 256) x ∙ lowest b (c + 256 * d) j in
    let r : h / 65536 % 256 ≡ c = ap (λ (n : ℕ). n % 256) y ∙ lowest c d k in
    let s : h / 16777216 % 256 ≡ d = ap (λ (n : ℕ). n % 256) z ∙ under d l in
    rw (p, q, r, s)
  where
    under : (n : ℕ) → n < 256 → n % 256 ≡ n
    under n l = omega arith

eight_bytes : (a b c d e f g h low high : ℕ) → low < 4294967296 → high < 4294967296
    → four_in low ≡ a ∷ b ∷ c ∷ d ∷ [] → four_in high ≡ e ∷ f ∷ g ∷ h ∷ []
    → bytes_in (low + 4294967296 * high) ≡ a ∷ b ∷ c ∷ d ∷ e ∷ f ∷ g ∷ h ∷ []
eight_bytes a b c d e f g h low high l m p q =
    let x : (low + 4294967296 * high) % 4294967296 ≡ low = omega arith in
    let y : (low + 4294967296 * high) / 4294967296 ≡ high = omega arith in
    ap (λ (w : ℕ). four_in w ++ four_in ((low + 4294967296 * high) / 4294967296)) x
    ∙ ap (λ (w : ℕ). four_in low ++ four_in w) y
    ∙ ap (λ (s : List ℕ). s ++ four_in high) p
    ∙ ap (λ (s : List ℕ). a ∷ b ∷ c ∷ d ∷ s) q

-- so many elements from a place on, one by one
unfoldable these : ℕ → List ℕ → ℕ → List ℕ
these zero s at = []
these (suc n) s at = get_or s at 0 ∷ these n s (at + 1)

these_are : (n : ℕ) (s : List ℕ) (at : ℕ) → at + n ≤ length s → these n s at ≡ take n (drop at s)
unfolding these
these_are zero s at h = refl
these_are (suc n) s at h = rw (drop-cons s at 0 (omega arith))
    (ap (λ (l : List ℕ). get_or s at 0 ∷ l) (these_are n s (at + 1) (omega arith) ∙ ap (λ (m : ℕ). take n (drop m s)) (add-one at)))

abbrev Bytes : List ℕ → Type 0
Bytes s = (i : ℕ) → get_or s i 0 < 256

-- the number of eight bytes has these bytes
of_eight : (a b c d e f g h : ℕ) → a < 256 → b < 256 → c < 256 → d < 256 → e < 256 → f < 256 → g < 256 → h < 256
    → bytes_in (a + 256 * (b + 256 * (c + 256 * (d + 256 * (e + 256 * (f + 256 * (g + 256 * (h + 256 * 0))))))))
    ≡ a ∷ b ∷ c ∷ d ∷ e ∷ f ∷ g ∷ h ∷ []
of_eight a b c d e f g h i j k l m n o p =
    let low : ℕ = a + 256 * (b + 256 * (c + 256 * d)) in
    let high : ℕ = e + 256 * (f + 256 * (g + 256 * h)) in
    let joined : a + 256 * (b + 256 * (c + 256 * (d + 256 * (e + 256 * (f + 256 * (g + 256 * (h + 256 * 0))))))) ≡ low + 4294967296 * high =
    omega arith in
    ap (λ (w : ℕ). bytes_in w) joined
    ∙ eight_bytes a b c d e f g h low high (omega arith) (omega arith) (four_bytes a b c d low i j k l refl) (four_bytes e f g h high m n o p refl)

word_bytes : (s : List ℕ) (at : ℕ) → Bytes s → bytes_in (le 8 s at) ≡ these 8 s at
unfolding le these
word_bytes s at small =
    of_eight _ _ _ _ _ _ _ _ (small _) (small _) (small _) (small _) (small _) (small _) (small _) (small _)

whole : (s : List ℕ) (a b c d : ℕ) → length s ≡ 32
    → bytes_in a ≡ these 8 s 0 → bytes_in b ≡ these 8 s 8 → bytes_in c ≡ these 8 s 16 → bytes_in d ≡ these 8 s 24
    → source_of a b c d ≡ s
unfolding source_of these
whole s a b c d l p q r t =
    ap (λ (x : List ℕ). x ++ (bytes_in b ++ (bytes_in c ++ bytes_in d))) p
    ∙ ap (λ (x : List ℕ). these 8 s 0 ++ (x ++ (bytes_in c ++ bytes_in d))) q
    ∙ ap (λ (x : List ℕ). these 8 s 0 ++ (these 8 s 8 ++ (x ++ bytes_in d))) r
    ∙ ap (λ (x : List ℕ). these 8 s 0 ++ (these 8 s 8 ++ (these 8 s 16 ++ x))) t
    ∙ these_are 32 s 0 (omega arith)
    ∙ take_all 32 s (omega arith)

pub words_whole : (s : List ℕ) (a b c d : ℕ) → Bytes s → length s ≡ 32 → a ≡ le 8 s 0 → b ≡ le 8 s 8 → c ≡ le 8 s 16 → d ≡ le 8 s 24
    → source_of a b c d ≡ s
words_whole s a b c d small l p q r t =
    whole s a b c d l (read a 0 p) (read b 8 q) (read c 16 r) (read d 24 t)
  where
    read : (w at : ℕ) → w ≡ le 8 s at → bytes_in w ≡ these 8 s at
    read w at e = ap (λ (w : ℕ). bytes_in w) e ∙ word_bytes s at small

-- ---- The bytes of the words

eight : {a b c d e f g h i j k l m n o p : ℕ} → a ≡ i → b ≡ j → c ≡ k → d ≡ l → e ≡ m → f ≡ n → g ≡ o → h ≡ p
    → a ∷ b ∷ c ∷ d ∷ e ∷ f ∷ g ∷ h ∷ [] ≡ i ∷ j ∷ k ∷ l ∷ m ∷ n ∷ o ∷ p ∷ []
eight q r s t u v w x = cc

bytes_same : (n : ℕ) → to_le_bytes w64 n ≡ bytes_in n
bytes_same n =
    eight (omega arith) (omega arith) (omega arith) (omega arith) (omega arith) (omega arith) (omega arith) (omega arith)

-- the bytes of word i are the next eight
next : (source : List ℕ) (i : ℕ) → i < 4 → take (8 * (i + 1)) (source_is source) ≡ take (8 * i) (source_is source) ++ bytes_in (get_or source i 0)
unfolding source_of
next source zero h = refl
next source (suc zero) h = refl
next source (suc (suc zero)) h = refl
next source (suc (suc (suc zero))) h = refl
next source (suc (suc (suc (suc i)))) h = absurd (omega arith)

pub put_next : (source bytes : List ℕ) (i k : ℕ) (ys : List ℕ) → i < 4 → k ≡ 8 → length bytes ≡ 32
    → take (8 * i) bytes ≡ take (8 * i) (source_is source) → ys ≡ to_le_bytes w64 (get_or source i 0)
    → (length (put_mid (8 * i) k bytes ys) ≡ 32) × (take (8 * (i + 1)) (put_mid (8 * i) k bytes ys) ≡ take (8 * (i + 1)) (source_is source))
put_next source bytes i k ys h n l e f =
    let m : length ys ≡ 8 = ap length f in (
      simp (length-append, length-take, length-drop) (omega arith),
      take-put_mid (8 * i) k bytes ys (8 * (i + 1)) (omega arith) (omega arith)
          ∙ ap₂ ◌++◌ e (f ∙ bytes_same (get_or source i 0))
          ∙ sym (next source i h),
    )

pub all_put : (source bytes : List ℕ) → length bytes ≡ 32 → take 32 bytes ≡ take 32 (source_is source) → bytes ≡ source_is source
unfolding source_of
all_put source bytes l e = sym (take_all 32 bytes (omega arith)) ∙ e
