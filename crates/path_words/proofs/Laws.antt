-- Words of components and of paths, written one after the other.
use Prim.Native.Nat.{ℕ, zero, suc, ◌+◌, ◌-◌, ◌*◌, ◌/◌, ◌%◌, ◌^◌, ◌≤◌, ◌<◌}
use mathlib.Core.Path.{◌≡◌, refl, ap, sym, ◌∙◌}
use mathlib.Core.Bool.{Bool, true, false, cond, ◌&&◌}
use mathlib.Core.List.{List, [], ◌∷◌, ◌++◌, append-nil, append_assoc}
use native.Mathlib.Omega.{arith}
use native.Mathlib.Nat.{add_assoc, sub-zero}
use native.Mathlib.Numerals.{add-one}
use Rattle.std.specs.Prelude.{Option, Some, None}
use lib.Dec.{leb}
use lib.ListN.{length, take, drop, get_or, set, take-append-drop, length-append}
use lib.Seq.{take-suc-set, drop-cons, drop-length, take-suc, take_all, take_at, length-take-le}
use borrow.Rule.Slice.PartMut.{put_mid, post_of}
use Rattle.std.proofs.lemmas.Slice.{take-put_mid_below}
use borrow.Author.Tests.{le-leb, lt-leb, leb-true}
use Rattle.local_format.specs.Out.{Out, ok, refused}
use Rattle.local_format.specs.Field.{le}
use Rattle.local_format.proofs.FieldLaws.{le_below, le_1}
use Rattle.lent_table.specs.Lent.{lent, laid}
use Rattle.semcode_records.specs.Records.{Taken, Table, next_of, records, ends}
use Rattle.semcode_records.specs.Component.{Component, tuple_index, field_symbol, variant, sequence_index, component_at}
use Rattle.semcode_records.specs.Path.{path_at}
use Rattle.semcode_records.specs.Numbers.{parts}
use Rattle.semcode_records.proofs.RecordsLaws.{none_left_lem, first_refused_lem, ends_on}
use Rattle.semcode_records.proofs.SizeLaws.{Sized, a_tuple, a_symbol, a_variant, a_sequence}
use Rattle.record_words.specs.Words.{all_words}
use Rattle.path_words.specs.declared.Put.{Put}
use Rattle.path_words.specs.Words.{component_word, Step, step_of, component_words, path_words, fitting, fitted, Fits}
use Rattle.path_words.specs.Front.{there, found, Opening, opening_words}

-- ---- A component by its numbers

pub word_by : (c : Component) → (parts c).kind + 4 * (parts c).first + 17179869184 * (parts c).second ≡ component_word c
word_by (tuple_index i) = omega arith
word_by (field_symbol f) = omega arith
word_by (variant v i) = omega arith
word_by (sequence_index i) = omega arith

-- ---- A component by its size

step_is : {v w m n : ℕ} → v ≡ w → m ≡ n → ◌≡◌ {A = Step} (record { whole = true; word = v; next = m }) (record { whole = true; word = w; next = n })
step_is e h = rw (e, h)

-- a field's lower and upper part
parts_8 : (s : List ℕ) (at : ℕ) → le 8 s at ≡ le 1 s at + 256 * le 7 s (at + 1)
unfolding le
parts_8 s at = omega arith

parts_2 : (s : List ℕ) (at : ℕ) → le 7 s at ≡ le 2 s at + 65536 * le 5 s (at + 2)
unfolding le
parts_2 s at = simp add_assoc (omega arith)

parts_4 : (s : List ℕ) (at : ℕ) → le 7 s at ≡ le 4 s at + 4294967296 * le 3 s (at + 4)
unfolding le
parts_4 s at = simp add_assoc (omega arith)

parts_6 : (s : List ℕ) (at : ℕ) → le 7 s at ≡ le 4 s at + 4294967296 * le 2 s (at + 4) + 281474976710656 * le 1 s (at + 6)
unfolding le
parts_6 s at = simp add_assoc (omega arith)

module _ (revision event : ℕ) (s : List ℕ) (at n : ℕ) (bytes : (i : ℕ) → get_or s i 0 < 256) where
  pub size_within : Sized revision event s at n → (1 ≤ n) × (n ≤ 7)
  size_within (a_tuple k e h) = (omega arith, omega arith)
  size_within (a_symbol k e h) = (omega arith, omega arith)
  size_within (a_variant k e h) = (omega arith, omega arith)
  size_within (a_sequence k e h) = (omega arith, omega arith)

  -- its word, made of 8 bytes
  abbrev word_of : ℕ → ℕ
  word_of v = get_or s at 0 + 4 * (v / 256 % 2 ^ (8 * (n - 1)))

  upper : {v : ℕ} → v ≡ le 8 s at → v / 256 ≡ le 7 s (at + 1)
  upper q =
      let a = parts_8 s at in
      let b = le_1 s at in
      let c = bytes at in
      omega arith

  pub step_sized : (v : ℕ) → v ≡ le 8 s at → Sized revision event s at n
      → record { whole = true; word = word_of v; next = at + n } ≡ step_of (component_at revision event s at)
  step_sized v q (a_tuple k e h) =
      let g : get_or s at 0 ≡ 0 = le_1 s at ∙ k in
      let p = parts_2 s (at + 1) in
      let b = le_below 2 s bytes (at + 1) in
      rw (upper q, e, h) (step_is (omega arith) refl)
  step_sized v q (a_symbol k e h) =
      let g : get_or s at 0 ≡ 1 = le_1 s at ∙ k in
      let p = parts_4 s (at + 1) in
      let b = le_below 4 s bytes (at + 1) in
      rw (upper q, e, h) (step_is (omega arith) refl)
  step_sized v q (a_variant k e h) =
      let g : get_or s at 0 ≡ 2 = le_1 s at ∙ k in
      let m : at + 1 + 4 ≡ at + 5 = omega arith in
      let p = rw m at (parts_6 s (at + 1)) in
      let a = le_below 4 s bytes (at + 1) in
      let b = le_below 2 s bytes (at + 5) in
      rw (upper q, e, h) (step_is (omega arith) refl)
  step_sized v q (a_sequence k e h) =
      let g : get_or s at 0 ≡ 3 = le_1 s at ∙ k in
      let p = parts_4 s (at + 1) in
      let b = le_below 4 s bytes (at + 1) in
      rw (upper q, e, h) (step_is (omega arith) refl)

-- ---- Components one after the other

pub unlike : false ≡ true → ⊥
unlike e = let z : ◌≡◌ {A = ℕ} 0 1 = cc in omega arith

module _ (read : ℕ → Out (Taken Component)) where
  pub length_components : (n at : ℕ) → length (component_words read n at) ≡ n
  unfolding component_words
  length_components zero at = refl
  length_components (suc n) at = ap suc (length_components n (step_of (read at)).next)

  -- where i of n components are there, and one more is due
  module _ (n i cursor : ℕ) (more : i < n) where
    ends_next : (x : Out (Taken Component)) → read cursor ≡ x → (step_of x).whole ≡ true
        → ends (records read (n - i) cursor) ≡ ends (records read (n - (i + 1)) (step_of x).next)
    ends_next (ok t) e w = ends_on read n i cursor more e
    ends_next (refused r) e w = absurd (unlike w)

    found_no_more : (x : Out (Taken Component)) → read cursor ≡ x → (step_of x).whole ≡ false → found (ends (records read (n - i) cursor)) ≡ None
    found_no_more (ok t) e w = absurd (unlike (sym w))
    found_no_more (refused r) e w = ap (λ (x : Out (Table Component)). found (ends x)) (first_refused_lem read n i cursor more e)

  -- the words of i components are written, and the rest follows from the cursor on
  pub record Putting (n at i cursor : ℕ) (t : List ℕ) : Type 0 where
    pub rest : component_words read n at ≡ take i t ++ component_words read (n - i) cursor
    pub left : ends (records read n at) ≡ ends (records read (n - i) cursor)

  module _ (n at : ℕ) where
    pub put_first : (t : List ℕ) → Putting n at 0 at t
    put_first t = record { rest = rw sub-zero; left = rw sub-zero }

    module _ (i cursor : ℕ) (t : List ℕ) (p : Putting n at i cursor t) where
      pub put_more : i < n → i < length t → (w next : ℕ) → record { whole = true; word = w; next = next } ≡ step_of (read cursor)
          → Putting n at (i + 1) next (set t i w)
      unfolding component_words
      put_more h l w next e =
          let left : n - i ≡ suc (n - (i + 1)) = omega arith in
          let first : component_words read (n - i) cursor ≡ w ∷ component_words read (n - (i + 1)) next = rw (left, ← e) in
          let on = ends_next n i cursor h (read cursor) refl (ap (λ (s : Step). s.whole) (sym e)) in
          let more : take (i + 1) (set t i w) ≡ take i t ++ (w ∷ []) = rw add-one (take-suc-set t i w l) in
          record {
            rest = p.rest ∙ rw (first, more) (sym (append_assoc (take i t) (w ∷ []) (component_words read (n - (i + 1)) next)));
            left = p.left ∙ on ∙ ap (λ (s : Step). ends (records read (n - (i + 1)) s.next)) (sym e);
          }

      pub put_refused : i < n → (step_of (read cursor)).whole ≡ false → None ≡ found (ends (records read n at))
      put_refused h w = sym (ap found p.left ∙ found_no_more n i cursor h (read cursor) refl w)

      pub put_last : n ≤ i → length t ≤ i → (Some cursor ≡ found (ends (records read n at))) × (t ≡ component_words read n at)
      unfolding component_words
      put_last h l =
          let z : n - i ≡ 0 = omega arith in
          (sym (ap found p.left ∙ rw (z, none_left_lem read cursor)), sym (p.rest ∙ rw (z, append-nil) (take_all i t l)))

-- what the place after components says of them
found_some : {A : Type 0} (x : Out A) {a : A} → Some a ≡ found x → x ≡ ok a
found_some (ok b) e = cc
found_some (refused r) e = absurd (cc)

there_some : (x : Out (Table Component)) {next : ℕ} → Some next ≡ found (ends x) → there x ≡ true
there_some (ok t) e = refl
there_some (refused r) e = absurd (cc)

there_none : (x : Out (Table Component)) → None ≡ found (ends x) → there x ≡ false
there_none (ok t) e = absurd (cc)
there_none (refused r) e = refl

-- ---- A path

and_false : (b : Bool) → (b && false) ≡ false
and_false true = refl
and_false false = refl

-- words that do not fit
short : (n room : ℕ) → room < n → fitting n room ≡ false
short n room h = rw (lt-leb n room h) (and_false (leb 1 n))

-- words that fit
fits : (n room : ℕ) → 1 ≤ n → n ≤ room → fitting n room ≡ true
fits n room h l = rw (le-leb 1 n h, le-leb n room l)

-- how many words of a path are put, where its words are these
abbrev pub Many : List ℕ → ℕ → Option ℕ → Type 0
Many xs room r = r ≡ cond (fitting (length xs) room) (Some (length xs)) None

-- the place in an answer
pub next_told : {p q : Put} → Some p ≡ Some q → p.next ≡ q.next
next_told {p} {q} e = let same : p ≡ q = cc in rw same

pub words_told : {p q : Put} → Some p ≡ Some q → p.words ≡ q.words
words_told {p} {q} e = let same : p ≡ q = cc in rw same

-- one with this opening
module _ (revision : ℕ) (s : List ℕ) (at : ℕ) (o : Opening) (e : path_words revision s at ≡ opening_words (λ kind. component_at revision kind s) o) where
  abbrev read : ℕ → Out (Taken Component)
  read = component_at revision o.kind s

  abbrev all : List ℕ
  all = o.event ∷ o.site ∷ o.root ∷ o.count ∷ component_words read o.count o.start

  all_size : length all ≡ 4 + o.count
  all_size = let n = length_components read o.count o.start in omega arith

  pub opening_short : (room : ℕ) → room < 4 + o.count → Many (path_words revision s at) room None
  opening_short room h = rw e (go (o.whole && there (records read o.count o.start)))
    where
      go : (b : Bool) → Many (cond b all []) room None
      go true = let f : fitting (length all) room ≡ false = short (length all) room (rw all_size h) in rw f
      go false = refl

  -- by the place after so many components
  module _ (n : ℕ) (many : n ≡ o.count) where
    pub opening_refused : None ≡ found (ends (records read n o.start)) → (room : ℕ) → Many (path_words revision s at) room None
    opening_refused h room =
        let no : there (records read o.count o.start) ≡ false = there_none (records read o.count o.start) (rw many at h) in
        rw (e, no, and_false o.whole)

    module _ (next : ℕ) (h : Some next ≡ found (ends (records read n o.start))) where
      pub opening_ends : next_of (path_at revision s at) ≡ ends (records read o.count o.start) → next_of (path_at revision s at) ≡ ok next
      opening_ends g = g ∙ found_some (ends (records read o.count o.start)) (rw many at h)

      module _ (whole : o.whole ≡ true) where
        whole_words : path_words revision s at ≡ all
        whole_words =
            let yes : there (records read o.count o.start) ≡ true = there_some (records read o.count o.start) (rw many at h) in
            rw (e, whole, yes)

        pub opening_many : (room : ℕ) → 4 + o.count ≤ room → Many (path_words revision s at) room (Some (4 + o.count))
        opening_many room l =
            let m : length (path_words revision s at) ≡ 4 + o.count = ap length whole_words ∙ all_size in
            let f : fitting (length (path_words revision s at)) room ≡ true = fits (length (path_words revision s at)) room (omega arith) (omega arith) in
            rw (f, m)

        -- the four words and those of the components, at the front of a table
        pub opening_puts : {ws : List ℕ} → ws ≡ component_words read n o.start → (old : List ℕ) → (size : ℕ) → size ≡ 4 + o.count → 4 ≤ length old
            → let t = set (set (set (set old 0 o.event) 1 o.site) 2 o.root) 3 o.count in
            take 4 t ++ (ws ++ post_of 4 (size - 4) t) ≡ laid (path_words revision s at) old
        opening_puts {ws} p (a ∷ b ∷ c ∷ d ∷ old) size z l =
            let words : ws ≡ component_words read o.count o.start = rw many at p in
            let m : size - 4 ≡ o.count = omega arith in
            rw (words, m)
            (ap (λ (k : ℕ). all ++ drop k old) (sym (length_components read o.count o.start))
            ∙ ap (λ (xs : List ℕ). laid xs (a ∷ b ∷ c ∷ d ∷ old)) (sym whole_words))
        opening_puts p (a ∷ b ∷ c ∷ []) size z l = absurd (omega arith)
        opening_puts p (a ∷ b ∷ []) size z l = absurd (omega arith)
        opening_puts p (a ∷ []) size z l = absurd (omega arith)
        opening_puts p [] size z l = absurd (omega arith)

-- ---- Paths one after the other

-- what a call says of one path
module _ (xs : List ℕ) (room : ℕ) where
  and_true : (a b : Bool) → (a && b) ≡ true → (a ≡ true) × (b ≡ true)
  and_true true true e = (refl, refl)
  and_true true false e = (refl, e)
  and_true false b e = (e, cc)

  pub one_none : Many xs room None → fitting (length xs) room ≡ false
  one_none p = go (fitting (length xs) room) refl p
    where
      go : (b : Bool) → fitting (length xs) room ≡ b → None ≡ cond b (Some (length xs)) None → b ≡ false
      go true e a = absurd (cc)
      go false e a = refl

  pub record One (r : ℕ) : Type 0 where
    pub fits : fitting (length xs) room ≡ true
    pub many : length xs ≡ r
    pub within : r ≤ room

  pub one_some : (r : ℕ) → Many xs room (Some r) → One r
  one_some r p = go (fitting (length xs) room) refl p
    where
      go : (b : Bool) → fitting (length xs) room ≡ b → Some r ≡ cond b (Some (length xs)) None → One r
      go true e a =
          let l = leb-true (length xs) room (and_true (leb 1 (length xs)) (leb (length xs) room) e).1 in
          let m : length xs ≡ r = cc in
          record { fits = e; many = m; within = omega arith }
      go false e a = absurd (cc)

-- the words that are laid in front of a table
pub laid_front : {xs ys : List ℕ} (old : List ℕ) {r : ℕ} → length xs ≡ r → ys ≡ laid xs old → take r ys ≡ xs
laid_front {xs} old {r} l e = rw e (take_at xs (drop (length xs) old) r l)

-- words put in a table from a place on, of which the first are taken
module _ (to k : ℕ) (w ys : List ℕ) (h : to ≤ length w) where
  pub put_front : (r : ℕ) → r ≤ length ys → take (to + r) (put_mid to k w ys) ≡ take to w ++ take r ys
  put_front r g =
      let n : length (take to w ++ take r ys) ≡ to + r = rw (length-append, length-take-le to w h, length-take-le r ys g) in
      ap (λ (zs : List ℕ). take (to + r) (take to w ++ (zs ++ post_of to k w))) (sym (take-append-drop r ys))
      ∙ ap (λ (zs : List ℕ). take (to + r) (take to w ++ zs)) (append_assoc (take r ys) (drop r ys) (post_of to k w))
      ∙ ap (take (to + r)) (sym (append_assoc (take to w) (take r ys) (drop r ys ++ post_of to k w)))
      ∙ take_at (take to w ++ take r ys) (drop r ys ++ post_of to k w) (to + r) n

  pub put_kept : take to (put_mid to k w ys) ≡ take to w
  put_kept = take-put_mid_below to k w ys to (omega arith) h

module _ (words : ℕ → List ℕ) where
  pub all_append : (xs ys : List ℕ) → all_words words (xs ++ ys) ≡ all_words words xs ++ all_words words ys
  unfolding all_words
  all_append [] ys = refl
  all_append (x ∷ xs) ys = rw (all_append xs ys) (sym (append_assoc (words x) (all_words words xs) (all_words words ys)))

  pub all_one : (x : ℕ) → all_words words (x ∷ []) ≡ words x
  unfolding all_words
  all_one x = append-nil (words x)

module _ (words : ℕ → List ℕ) (starts : List ℕ) where
  -- the words of i paths are written
  pub record Filling (i to : ℕ) (before t : List ℕ) : Type 0 where
    pub most : i ≤ length starts
    pub within : to ≤ length t
    pub size : length t ≡ length before
    pub count : fitted words starts (length before) ≡ i + fitted words (drop i starts) (length before - to)
    pub front : take to t ≡ all_words words (take i starts)

  pub fill_first : (before : List ℕ) → Filling 0 0 before before
  unfolding all_words
  fill_first before =
      let d : drop 0 starts ≡ starts = refl in
      record { most = omega arith; within = omega arith; size = refl; count = rw (sub-zero, d) (omega arith); front = refl }

  module _ (i to : ℕ) (before t : List ℕ) (inv : Filling i to before t) where
    pub fill_end : (after : List ℕ) → i ≡ length starts → after ≡ lent (length t) (take to t) → Fits words starts before after i
    unfolding fitted
    fill_end after e z =
        let d : drop i starts ≡ [] = rw e (drop-length starts) in
        let c : i ≡ fitted words starts (length before) = sym (inv.count ∙ rw d (omega arith)) in
        record { answer = c; table = z ∙ rw (inv.front, inv.size) }

    module _ (u : List ℕ) (more : i < length starts) where
      next : fitted words (drop i starts) (length before - to)
          ≡ cond (fitting (length (words (get_or starts i 0))) (length before - to))
          (suc (fitted words (drop (i + 1) starts) (length before - to - length (words (get_or starts i 0))))) 0
      unfolding fitted
      next = rw (drop-cons starts i 0 more, add-one)

      pub fill_stop : (after : List ℕ) → Many (words (get_or starts i 0)) (length t - to) None → take to u ≡ take to t → length u ≡ length t
          → after ≡ lent (length u) (take to u) → Fits words starts before after i
      fill_stop after p same l z =
          let s = inv.size in
          let w = words (get_or starts i 0) in
          let f : fitting (length w) (length before - to) ≡ false = rw s at (one_none w (length t - to) p) in
          let c : i ≡ fitted words starts (length before) = sym (inv.count ∙ rw (next, f) (omega arith)) in
          record { answer = c; table = z ∙ rw (same, inv.front, l, s) }

      pub fill_on : (r : ℕ) → Many (words (get_or starts i 0)) (length t - to) (Some r) → length u ≡ length t
          → take (to + r) u ≡ take to t ++ words (get_or starts i 0) → Filling (i + 1) (to + r) before u
      fill_on r p l front =
          let o = one_some (words (get_or starts i 0)) (length t - to) r p in
          let s = inv.size in
          let f : fitting (length (words (get_or starts i 0))) (length before - to) ≡ true = rw s at o.fits in
          let w = o.within in
          let k = inv.within in
          let room : length before - to - length (words (get_or starts i 0)) ≡ length before - (to + r) = let m = o.many in omega arith in
          let left = fitted words (drop (i + 1) starts) (length before - (to + r)) in
          let plus : i + suc left ≡ i + 1 + left = omega arith in
          let whole : take (i + 1) starts ≡ take i starts ++ (get_or starts i 0 ∷ []) = rw add-one (take-suc starts i 0 more) in
          record {
            most = omega arith;
            within = omega arith;
            size = l ∙ s;
            count = inv.count ∙ rw (next, f, room) plus;
            front = front ∙ rw (inv.front, whole, all_append words (take i starts) (get_or starts i 0 ∷ []), all_one words (get_or starts i 0));
          }
