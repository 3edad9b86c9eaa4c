-- Words that are written one after the other: what was written before stays in front, and the rest of the records follows.
use Prim.Native.Nat.{ℕ, zero, suc, ◌+◌, ◌-◌, ◌*◌, ◌≤◌, ◌<◌}
use mathlib.Core.Path.{◌≡◌, refl, ap, sym, ◌∙◌}
use mathlib.Core.Bool.{Bool, true, false, cond, ◌&&◌}
use mathlib.Core.List.{List, [], ◌∷◌, ◌++◌, append-nil, append_assoc}
use native.Mathlib.Omega.{arith}
use native.Mathlib.Numerals.{add-one}
use lib.Dec.{leb}
use lib.ListN.{length, take, drop, get_or, set, length-append, length-set, length-take, length-drop}
use lib.Seq.{take-suc-set, length-take-le, drop-cons, drop-length, take_all, take_at}
use Rattle.local_format.specs.Field.{le}
use borrow.Author.Tests.{le-leb, lt-leb, leb-true}
use borrow.Rule.Slice.PartMut.{put_mid}
use Rattle.std.proofs.lemmas.Slice.{take-put_mid}
use Rattle.lent_table.specs.Lent.{lent}
use Rattle.evr0_section.specs.Head.{witness_size}
use Rattle.record_words.specs.Words.{
  fields,
  after_text,
  text_whole,
  text_words,
  witness_whole,
  witness_words,
  span_words,
  all_whole,
  all_words,
  fits,
  Fills,
  Runs,
}
use Rattle.record_words.specs.Sizes.{length_fields}
use Rattle.std.specs.Prelude.{Some, None}

-- ---- Fields

-- one field more
pub fields_more : (n : ℕ) (s : List ℕ) (at : ℕ) → fields (suc n) s at ≡ fields n s at ++ le 4 s (at + 4 * n) ∷ []
unfolding fields
fields_more zero s at = let e : at + 4 * 0 ≡ at = omega arith in rw e
fields_more (suc n) s at =
    let e : at + 4 + 4 * n ≡ at + 4 * suc n = omega arith in
    ap (λ (l : List ℕ). le 4 s at ∷ l) (fields_more n s (at + 4) ∙ rw e)

module _ (s : List ℕ) (at : ℕ) where
  pub fill_none : (t : List ℕ) → take 0 t ≡ fields 0 s at
  unfolding fields
  fill_none t = refl

  pub fill_more : (i : ℕ) (t : List ℕ) → i < length t → take i t ≡ fields i s at
      → take (i + 1) (set t i (le 4 s (at + 4 * i))) ≡ fields (i + 1) s at
  fill_more i t h inv = rw (add-one, take-suc-set t i _ h, inv, fields_more i s at)

  pub fill_done : (n i : ℕ) (t : List ℕ) → i ≡ n → length t ≡ i → take i t ≡ fields i s at → t ≡ fields n s at
  fill_done n i t e l inv = sym (take_all i t (omega arith)) ∙ inv ∙ ap (λ (m : ℕ). fields m s at) e

-- ---- Words put piece by piece

-- words in front of a table, and two more
abbrev pub with_two : ℕ → List ℕ → List ℕ → ℕ → ℕ → List ℕ
with_two n xs ys a b = set (set (ys ++ drop n xs) n a) (n + 1) b

module _ (n : ℕ) (xs ys : List ℕ) (l : length ys ≡ n) where
  front_size : n ≤ length xs → length (ys ++ drop n xs) ≡ length xs
  front_size h = simp (length-append, length-drop) (omega arith)

  -- the words in front, and one more
  front_one : (a : ℕ) → n < length xs → take (n + 1) (set (ys ++ drop n xs) n a) ≡ ys ++ (a ∷ [])
  front_one a h =
      let m = front_size (omega arith) in
      rw (add-one, take-suc-set (ys ++ drop n xs) n a (omega arith)) (ap (λ (t : List ℕ). t ++ (a ∷ [])) (take_at ys (drop n xs) n l))

  -- and two more
  pub two_size : (a b : ℕ) → n ≤ length xs → length (with_two n xs ys a b) ≡ length xs
  two_size a b h = let m = front_size h in simp length-set m

  front_two : (a b : ℕ) → n + 1 < length xs → take (n + 2) (with_two n xs ys a b) ≡ ys ++ (a ∷ b ∷ [])
  front_two a b h =
      let e : n + 2 ≡ suc (n + 1) = omega arith in
      let m = front_size (omega arith) in
      let k : length (set (ys ++ drop n xs) n a) ≡ length xs = simp length-set m in
      rw (e, take-suc-set (set (ys ++ drop n xs) n a) (n + 1) b (omega arith), front_one a (omega arith)) (append_assoc ys (a ∷ []) (b ∷ []))

-- a part of a table
pub put_size : (a k : ℕ) (w zs : List ℕ) → length zs ≡ k → a + k ≤ length w → length (put_mid a k w zs) ≡ length w
put_size a k w zs e h = simp (length-append, length-take, length-drop) (omega arith)

-- a part that goes to the end
pub last_size : (w : List ℕ) (a : ℕ) → length (take (length w - a) (drop a w)) ≡ length w - a
last_size w a = simp (length-take, length-drop) (omega arith)

pub last_put : (w zs : List ℕ) (a : ℕ) → put_mid a (length w - a) w zs ≡ take a w ++ zs
last_put w zs a =
    let e : drop (length w - a) (drop a w) ≡ [] = ap (λ (k : ℕ). drop k (drop a w)) (sym (length-drop a w)) ∙ drop-length (drop a w) in
    rw (e, append-nil)

-- ---- A record with a text

module _ (front back : ℕ) (s : List ℕ) (at : ℕ) where
  pub text_cut : length s < after_text front s at + 4 * back → None ≡ cond (text_whole front back s at) (Some (after_text front s at)) None
  unfolding text_whole
  text_cut h = rw (lt-leb _ _ h)

  pub text_there : (rest : ℕ) → rest ≡ at + (4 * front + 2) + le 2 s (at + 4 * front) → rest + 4 * back ≤ length s
      → Some rest ≡ cond (text_whole front back s at) (Some (after_text front s at)) None
  unfolding text_whole
  text_there rest e h =
      let f : after_text front s at ≡ rest = omega arith in
      rw (f, le-leb _ _ h)

  -- what is known of a record that is whole
  pub record TextThere (rest : ℕ) : Type 0 where
    pub whole : text_whole front back s at ≡ true
    pub after : rest ≡ after_text front s at
    pub inside : rest + 4 * back ≤ length s

  pub text_whole_lem : (rest : ℕ) → Some rest ≡ cond (text_whole front back s at) (Some (after_text front s at)) None → TextThere rest
  unfolding text_whole
  text_whole_lem rest e = go (leb (after_text front s at + 4 * back) (length s)) refl e
    where
      go : (b : Bool) → leb (after_text front s at + 4 * back) (length s) ≡ b → Some rest ≡ cond b (Some (after_text front s at)) None → TextThere rest
      go true h k =
          let l = leb-true (after_text front s at + 4 * back) (length s) h in
          let j : rest ≡ after_text front s at = cc in
          record { whole = h; after = j; inside = omega arith }
      go false h k = absurd (cc)

  -- fields, the place of the text and its length, and fields
  pub text_put : (rest m k : ℕ) (xs ys zs : List ℕ) → rest ≡ after_text front s at → length xs ≡ front + 2 + back
      → m ≡ front → ys ≡ fields m s at → k ≡ back → zs ≡ fields k s rest
      → let w = with_two front xs ys (at + 4 * front + 2) (rest - (at + 4 * front + 2)) in
      put_mid (front + 2) (length w - (front + 2)) w zs ≡ text_words front back s at
  unfolding text_words
  text_put rest m k xs ys zs h size e p f q =
      let n : rest - (at + 4 * front + 2) ≡ le 2 s (at + 4 * front) = omega arith in
      let l : length ys ≡ front = rw (p, e) (length_fields front s at) in
      last_put (with_two front xs ys (at + 4 * front + 2) (rest - (at + 4 * front + 2))) zs (front + 2)
      ∙ ap (λ (t : List ℕ). t ++ zs) (front_two front xs ys l (at + 4 * front + 2) (rest - (at + 4 * front + 2)) (omega arith))
      ∙ append_assoc ys ((at + 4 * front + 2) ∷ (rest - (at + 4 * front + 2)) ∷ []) zs
      ∙ rw (n, p, e, q, f, h)

-- ---- A witness

module _ (width : ℕ) (s : List ℕ) (at : ℕ) where
  pub witness_cut : length s < at + witness_size width → witness_whole width s at ≡ false
  unfolding witness_whole
  witness_cut h = lt-leb (at + witness_size width) (length s) h

  pub witness_there : at + witness_size width ≤ length s → witness_whole width s at ≡ true
  unfolding witness_whole
  witness_there h = le-leb (at + witness_size width) (length s) h

module _ (width : ℕ) (s : List ℕ) (at origin m : ℕ) (xs ys zs : List ℕ) where
  -- three fields, a place, a span's ends and a place
  pub witness_put : length xs ≡ 7 → m ≡ 3 → ys ≡ fields m s at → zs ≡ span_words width s (at + 44) → origin ≡ at + 44 + 2 * width
      → set (put_mid 4 2 (set (ys ++ drop 3 xs) 3 (at + 12)) zs) 6 origin ≡ witness_words width s at
  unfolding witness_words span_words fields
  witness_put size e p q h =
      let l : length ys ≡ 3 = rw (p, e) (length_fields 3 s at) in
      let two : length zs ≡ 2 = rw q refl in
      let u : List ℕ = set (ys ++ drop 3 xs) 3 (at + 12) in
      let a : length u ≡ 7 = let f = front_size 3 xs ys l (omega arith) in simp length-set (omega arith) in
      let t : List ℕ = put_mid 4 2 u zs in
      let b : length t ≡ 7 = put_size 4 2 u zs two (omega arith) ∙ a in
      let c : length (set t 6 origin) ≡ 7 = simp length-set b in
      sym (take_all 7 (set t 6 origin) (omega arith))
      ∙ take-suc-set t 6 origin (omega arith)
      ∙ ap (λ (w : List ℕ). w ++ (origin ∷ []))
      (take-put_mid 4 2 u zs 6 (omega arith) (omega arith) ∙ ap (λ (w : List ℕ). w ++ zs) (front_one 3 xs ys l (at + 12) (omega arith)))
      ∙ rw (p, e, q, h)

pub wide_span : (s : List ℕ) (at : ℕ) (xs : List ℕ) {v w : ℕ} → length xs ≡ 2 → v ≡ le 8 s at → w ≡ le 8 s (at + 8)
    → set (set xs 0 v) 1 w ≡ span_words 8 s at
unfolding span_words
wide_span s at xs {v} {w} l e f =
    let n = two_size 0 xs [] refl v w (omega arith) in
    sym (take_all 2 (set (set xs 0 v) 1 w) (omega arith)) ∙ front_two 0 xs [] refl v w (omega arith) ∙ rw (e, f)

-- fields of 4 bytes are a span's ends
pub narrow_span : (s : List ℕ) (at : ℕ) → fields 2 s at ≡ span_words 4 s at
unfolding fields span_words
narrow_span s at = refl

-- ---- Records one after the other

and_false : (b : Bool) → (b && false) ≡ false
and_false true = refl
and_false false = refl

module _ (whole : ℕ → Bool) (words : ℕ → List ℕ) (starts : List ℕ) where
  -- the words of i records are written, and the rest follows
  pub record Filling (i to : ℕ) (t : List ℕ) : Type 0 where
    pub there : all_whole whole starts ≡ all_whole whole (drop i starts)
    pub written : all_words words starts ≡ take to t ++ all_words words (drop i starts)

  pub fill_first : (t : List ℕ) → Filling 0 0 t
  fill_first t = record { there = refl; written = refl }

  module _ (i to : ℕ) (t : List ℕ) (inv : Filling i to t) where
    pub next_there : i < length starts → all_whole whole starts ≡ (whole (get_or starts i 0) && all_whole whole (drop (i + 1) starts))
    unfolding all_whole
    next_there h = inv.there ∙ rw (drop-cons starts i 0 h, add-one)

    pub next_words : i < length starts → all_words words starts ≡ take to t ++ (words (get_or starts i 0) ++ all_words words (drop (i + 1) starts))
    unfolding all_words
    next_words h = inv.written ∙ rw (drop-cons starts i 0 h, add-one)

    -- a record that is not whole
    pub fill_cut : (u : List ℕ) → i < length starts → whole (get_or starts i 0) ≡ false → fits whole words starts u ≡ false
    fill_cut u h e = rw (next_there h, e)

    -- a record that does not fit
    pub fill_short : (u : List ℕ) → i < length starts → to ≤ length t → length u < to + length (words (get_or starts i 0)) → fits whole words starts u ≡ false
    fill_short u h l e =
        let n : length (all_words words starts) ≡ to + (length (words (get_or starts i 0)) + length (all_words words (drop (i + 1) starts))) =
        ap length (next_words h) ∙ simp (length-append, length-take-le to t l)
        in
        let s : leb (length (all_words words starts)) (length u) ≡ false = lt-leb (length (all_words words starts)) (length u) (omega arith) in
        rw s (and_false (all_whole whole starts))

    -- a record that is written
    pub fill_on : (k size : ℕ) (ws : List ℕ) → i < length starts → whole (get_or starts i 0) ≡ true → ws ≡ words (get_or starts i 0)
        → length (words (get_or starts i 0)) ≡ size → to ≤ length t → Filling (i + 1) (to + size) (put_mid to k t ws)
    fill_on k size ws h e p l room =
        let n : to + size ≡ to + length ws = rw (p, l) in
        record {
          there = next_there h ∙ rw e;
          written = next_words h ∙ sym (append_assoc (take to t) (words (get_or starts i 0)) _)
              ∙ ap (λ (xs : List ℕ). xs ++ all_words words (drop (i + 1) starts))
              (ap (λ (xs : List ℕ). take to t ++ xs) (sym p) ∙ sym (take-put_mid to k t ws (to + size) n room));
        }

    pub fill_end : (u : List ℕ) → i ≡ length starts → to ≤ length t → length t ≡ length u
        → (fits whole words starts u ≡ true) × (all_words words starts ≡ take to t)
    unfolding all_whole all_words
    fill_end u e l m =
        let d : drop i starts ≡ [] = rw e (drop-length starts) in
        let w : all_words words starts ≡ take to t = inv.written ∙ rw (d, append-nil) in
        let a : all_whole whole starts ≡ true = inv.there ∙ rw d in
        let n : length (take to t) ≡ to = length-take-le to t l in
        let b : leb (length (take to t)) (length u) ≡ true = le-leb (length (take to t)) (length u) (omega arith) in
        (rw (a, w, b), w)

-- ---- What a call leaves

module _ (whole : ℕ → Bool) (words : ℕ → List ℕ) (starts before : List ℕ) where
  pub leaves_none : (after : List ℕ) → fits whole words starts before ≡ false → after ≡ lent (length before) [] → Fills whole words starts before after false
  leaves_none after e z = record { answer = sym e; table = rw e z }

  pub leaves_all : (to : ℕ) (t after : List ℕ) → length t ≡ length before → fits whole words starts before ≡ true → all_words words starts ≡ take to t
      → after ≡ lent (length t) (take to t) → Fills whole words starts before after true
  leaves_all to t after l e w z = record { answer = sym e; table = rw (e, w, ← l) z }

module _ (s : List ℕ) (at : ℕ) (before after : List ℕ) where
  pub runs_none : length s - at < 4 * length before → after ≡ lent (length before) [] → Runs s at before after false
  runs_none h z =
      let e : leb (4 * length before) (length s - at) ≡ false = lt-leb (4 * length before) (length s - at) h in
      record { answer = sym e; table = rw e z }

  pub runs_all : 4 * length before ≤ length s - at → after ≡ fields (length before) s at → Runs s at before after true
  runs_all h w =
      let e : leb (4 * length before) (length s - at) ≡ true = le-leb (4 * length before) (length s - at) h in
      let n : length (fields (length before) s at) ≡ length before = length_fields (length before) s at in
      let z : length before - length before ≡ 0 = omega arith in
      record { answer = sym e; table = w ∙ rw (e, n, z, append-nil) }
