-- Laws of comparing byte strings.
use mathlib.Core.Path.{◌≡◌, refl, ap, ap₂, sym, ◌∙◌}
use Prim.Native.Nat.{ℕ, zero, suc, ◌+◌, ◌-◌, ◌*◌, ◌≤◌, ◌<◌}
use native.Mathlib.Omega.{arith}
use native.Mathlib.Numerals.{add-one}
use mathlib.Core.List.{List, [], ◌∷◌}
use mathlib.Core.Bool.{Bool, true, false, ◌&&◌, and-false}
use lib.Dec.{eqb, leb}
use borrow.Author.Tests.{eq-eqb, ne_eqb, eqb-true, eqb-false, le-leb, lt-leb, leb-true, leb-false}
use lib.ListN.{length, get_or, take, drop, length-take, length-drop, drop_of_length-le}
use lib.Pointwise.{pointwise}
use lib.Seq.{drop-cons, drop-drop}
use Rattle.std.specs.List.{starts_with}
use Rattle.local_format.specs.Field.{le}
use Rattle.local_format.specs.Tag.{equal, tag_at}
use Rattle.utf8.proofs.BoolLaws.{both}

eqb_sym : (x y : ℕ) → eqb x y ≡ eqb y x
eqb_sym x y = go (eqb y x) refl
  where
    go : (t : Bool) → eqb y x ≡ t → eqb x y ≡ t
    go true e = eq-eqb x y (sym (eqb-true y x e))
    go false e = ne_eqb x y (λ z. eqb-false y x e (sym z))

pub unequal : (a b : List ℕ) → (length a ≡ length b → ⊥) → false ≡ equal a b
unfolding equal
unequal [] [] h = absurd (h refl)
unequal [] (y ∷ ys) h = refl
unequal (x ∷ xs) [] h = refl
unequal (x ∷ xs) (y ∷ ys) h =
    sym (ap (λ (t : Bool). eqb x y && t) (sym (unequal xs ys (λ e. h (ap suc e)))) ∙ and-false (eqb x y))

-- what `equal` says
pub equal_is : (a b : List ℕ) → equal a b ≡ true → a ≡ b
unfolding equal
equal_is [] [] h = refl
equal_is [] (y ∷ ys) h = let z : ◌≡◌ {A = List ℕ} [] (y ∷ ys) = cc in z
equal_is (x ∷ xs) [] h = let z : ◌≡◌ {A = List ℕ} (x ∷ xs) [] = cc in z
equal_is (x ∷ xs) (y ∷ ys) h = go (eqb x y) refl (equal_is xs ys) h
  where
    go : (t : Bool) → eqb x y ≡ t → (equal xs ys ≡ true → xs ≡ ys) → (t && equal xs ys) ≡ true → x ∷ xs ≡ y ∷ ys
    go true e ih k = ap₂ (λ (z : ℕ) (zs : List ℕ). z ∷ zs) (eqb-true x y e) (ih k)
    go false e ih k = let z : x ∷ xs ≡ y ∷ ys = cc in z

pub equal_self : (a : List ℕ) → equal a a ≡ true
unfolding equal
equal_self [] = refl
equal_self (x ∷ xs) = rw (eq-eqb x x refl) (equal_self xs)

pub differ : (a b : List ℕ) → (a ≡ b → ⊥) → equal a b ≡ false
differ a b h = go (equal a b) refl
  where
    go : (t : Bool) → equal a b ≡ t → t ≡ false
    go true e = absurd (h (equal_is a b e))
    go false e = refl

equal_sym : (a b : List ℕ) → equal a b ≡ equal b a
unfolding equal
equal_sym [] [] = refl
equal_sym [] (y ∷ ys) = refl
equal_sym (x ∷ xs) [] = refl
equal_sym (x ∷ xs) (y ∷ ys) = ap₂ (λ (t u : Bool). t && u) (eqb_sym x y) (equal_sym xs ys)

-- what `==` answers of two slices
pub equal_pointwise : (a b : List ℕ) → pointwise eqb a b ≡ equal a b
unfolding equal
equal_pointwise [] [] = refl
equal_pointwise [] (y ∷ ys) = refl
equal_pointwise (x ∷ xs) [] = refl
equal_pointwise (x ∷ xs) (y ∷ ys) = ap (λ (t : Bool). eqb x y && t) (equal_pointwise xs ys)

-- ---- By words of so many bytes
module _ (a b : List ℕ) (i : ℕ) where
  pub turn : i < length a → i < length b
      → equal (drop i a) (drop i b) ≡ (eqb (get_or a i 0) (get_or b i 0) && equal (drop (i + 1) a) (drop (i + 1) b))
  unfolding equal
  turn h k = rw (add-one, drop-cons a i 0 h, drop-cons b i 0 k)

-- a byte and the number of those after it
eqb_byte : (x y p q : ℕ) → x < 256 → y < 256 → eqb (x + 256 * p) (y + 256 * q) ≡ (eqb x y && eqb p q)
eqb_byte x y p q h k = go (eqb x y) refl (eqb p q) refl
  where
    go : (t : Bool) → eqb x y ≡ t → (u : Bool) → eqb p q ≡ u → eqb (x + 256 * p) (y + 256 * q) ≡ (t && u)
    go true e true f = eq-eqb (x + 256 * p) (y + 256 * q) (omega (arith, eqb-true x y e, eqb-true p q f))
    go true e false f = ne_eqb (x + 256 * p) (y + 256 * q) (λ z. eqb-false p q f (omega (arith, eqb-true x y e)))
    go false e u f = ne_eqb (x + 256 * p) (y + 256 * q) (λ z. eqb-false x y e (omega arith))

module _ (a b : List ℕ) (p : (i : ℕ) → get_or a i 0 < 256) (q : (i : ℕ) → get_or b i 0 < 256) where
  -- the bytes from a place on are the same where a field there is, and what follows it
  turns : (width i : ℕ) → i + width ≤ length a → i + width ≤ length b
      → equal (drop i a) (drop i b) ≡ (eqb (le width a i) (le width b i) && equal (drop (i + width) a) (drop (i + width) b))
  unfolding le
  turns zero i h k = let e : i + 0 ≡ i = omega arith in rw e
  turns (suc width) i h k =
      let e : i + suc width ≡ i + 1 + width = omega arith in
      rw (e, eqb_byte (get_or a i 0) (get_or b i 0) (le width a (i + 1)) (le width b (i + 1)) (p i) (q i))
      (turn a b i (omega arith) (omega arith)
      ∙ ap (λ (t : Bool). eqb (get_or a i 0) (get_or b i 0) && t) (turns width (i + 1) (omega arith) (omega arith))
      ∙ sym (and_assoc (eqb (get_or a i 0) (get_or b i 0)) (eqb (le width a (i + 1)) (le width b (i + 1))) _))
    where
      and_assoc : (p q r : Bool) → ((p && q) && r) ≡ (p && (q && r))
      and_assoc true q r = refl
      and_assoc false q r = refl

  -- words that are the same are passed
  pub word_same : (width i : ℕ) → i + width ≤ length a → i + width ≤ length b → le width a i ≡ le width b i
      → equal (drop i a) (drop i b) ≡ equal (drop (i + width) a) (drop (i + width) b)
  word_same width i h k e = turns width i h k ∙ simp (eq-eqb _ _ e)

  -- nothing is left of either
  pub ended : (i : ℕ) → length a ≤ i → length b ≤ i → equal (drop i a) (drop i b) ≡ true
  unfolding equal
  ended i h k = rw (drop_of_length-le a h, drop_of_length-le b k) refl

  -- the last word is the same, and so is what follows its first byte
  pub end_same : (width : ℕ) → length a ≡ length b → width ≤ length a → le width a (length a - width) ≡ le width b (length a - width)
      → (i : ℕ) → length a - width ≤ i → equal (drop i a) (drop i b) ≡ true
  end_same width l h e i k =
      let n = length a - width in
      let ends : equal (drop (n + width) a) (drop (n + width) b) ≡ true = ended (n + width) (omega arith) (omega arith) in
      let word : drop n a ≡ drop n b = equal_is _ _ (word_same width n (omega arith) (omega arith) e ∙ ends) in
      let at : n + (i - n) ≡ i = omega arith in
      let rest : drop i a ≡ drop i b = rw at at (sym (drop-drop (i - n) n a) ∙ ap (drop (i - n)) word ∙ drop-drop (i - n) n b) in
      rw rest (equal_self (drop i b))

-- words of theirs differ
pub word_differs : (width : ℕ) (a b : List ℕ) (i : ℕ) → (le width a i ≡ le width b i → ⊥) → false ≡ equal a b
word_differs width a b i h = sym (differ a b (λ e. h (ap (λ (c : List ℕ). le width c i) e)))

module _ (a b : List ℕ) (p : (i : ℕ) → get_or a i 0 < 256) (q : (i : ℕ) → get_or b i 0 < 256) where
  -- by the first word and the last, which leave nothing between them
  pub by_two : (width : ℕ) → length a ≡ length b → width ≤ length a → length a ≤ width + width
      → (eqb (le width a 0) (le width b 0) && eqb (le width a (length a - width)) (le width b (length a - width))) ≡ equal a b
  by_two width l h k = go (eqb (le width a 0) (le width b 0)) refl (eqb (le width a n) (le width b n)) refl
    where
      n : ℕ
      n = length a - width

      go : (t : Bool) → eqb (le width a 0) (le width b 0) ≡ t → (u : Bool) → eqb (le width a n) (le width b n) ≡ u → (t && u) ≡ equal a b
      go true e true f =
          sym (word_same a b p q width 0 (omega arith) (omega arith) (eqb-true _ _ e)
          ∙ end_same a b p q width l h (eqb-true _ _ f) (0 + width) (omega arith))
      go true e false f = word_differs width a b n (eqb-false _ _ f)
      go false e u f = word_differs width a b 0 (eqb-false _ _ e)

module _ (tag s : List ℕ) (at : ℕ) where
  pub tag_cut : length s < at + length tag → false ≡ tag_at tag s at
  unfolding tag_at
  tag_cut h = simp (lt-leb (at + length tag) (length s) h)

  -- what `starts_with` answers of the bytes from a place on
  pub tag_starts : at ≤ length s → starts_with eqb (drop at s) tag ≡ tag_at tag s at
  unfolding tag_at
  tag_starts h = go (leb (at + length tag) (length s)) refl
    where
      front : List ℕ
      front = take (length tag) (drop at s)

      go : (t : Bool) → leb (at + length tag) (length s) ≡ t → pointwise eqb tag front ≡ (t && equal front tag)
      go true e = equal_pointwise tag front ∙ equal_sym tag front
      go false e =
          let cut = leb-false (at + length tag) (length s) e in
          let short : length front < length tag = rw (length-take, length-drop) (omega (arith, cut)) in
          equal_pointwise tag front ∙ sym (unequal tag front (λ k. omega (arith, k, short)))

  pub tag_whole : at + length tag ≤ length s → equal (take (length tag) (drop at s)) tag ≡ tag_at tag s at
  unfolding tag_at
  tag_whole h = simp (le-leb (at + length tag) (length s) h)

-- ---- What a tag at a place says
pub tag_there : (tag s : List ℕ) (at : ℕ) → tag_at tag s at ≡ true → (at + length tag ≤ length s) × (take (length tag) (drop at s) ≡ tag)
unfolding tag_at
tag_there tag s at e =
    let p = both (leb (at + length tag) (length s)) (equal (take (length tag) (drop at s)) tag) e in
    (leb-true (at + length tag) (length s) p.0, equal_is (take (length tag) (drop at s)) tag p.1)
