-- Words put over the 24 of a lock's place: the lock there is theirs, and every other lock is as it was.
use mathlib.Core.Path.{◌≡◌, refl, ap, sym, ◌∙◌}
use Prim.Native.Nat.{ℕ, ◌+◌, ◌*◌, ◌-◌, ◌<◌}
use native.Mathlib.Omega.{arith}
use mathlib.Core.List.{List, ◌++◌, append_assoc}
use mathlib.Core.Bool.{Bool, true, false}
use lib.Dec.{leb}
use lib.ListN.{length, get_or, take, drop, length-append, length-take, length-drop}
use lib.Seq.{get_or-take, drop-drop, paste}
use borrow.Author.Tests.{leb-true, leb-false}
use borrow.Rule.Slice.PartMut.{put_mid}
use Rattle.std.proofs.lemmas.Slice.{between_is, take-put_mid_below, drop-put_mid, between-put_mid}
use Rattle.lock_words.specs.Words.{slot}
use Rattle.lock_words.specs.Place.{Placed}

pub span : (a : ℕ) → a + 24 - a ≡ 24
span a = omega arith

slot_below : (words : List ℕ) (i : ℕ) → slot words i ≡ drop (1 + 24 * i) (take (1 + 24 * i + 24) words)
unfolding slot
slot_below words i =
    ap (λ (k : ℕ). take k (drop (1 + 24 * i) words)) (sym (span (1 + 24 * i))) ∙ between_is words (1 + 24 * i) (1 + 24 * i + 24)

module _ (words ws : List ℕ) (lock : ℕ) (l : length words ≡ 6145) (m : lock < 256) (n : length ws ≡ 24) where
  abbrev at : ℕ
  at = 1 + 24 * lock

  abbrev after : List ℕ
  after = put_mid at 24 words ws

  here : slot after lock ≡ ws
  unfolding slot
  here =
      ap (λ (k : ℕ). take k (drop at after)) (sym (span at)) ∙ between-put_mid at 24 words ws (at + 24) (omega arith) (n ∙ sym (span at))

  below : (j : ℕ) → j < lock → slot after j ≡ slot words j
  below j h =
      slot_below after j
      ∙ ap (drop (1 + 24 * j)) (take-put_mid_below at 24 words ws (1 + 24 * j + 24) (omega arith) (omega arith))
      ∙ sym (slot_below words j)

  above : (j : ℕ) → lock < j → slot after j ≡ slot words j
  unfolding slot
  above j h = ap (take 24) (drop-put_mid at 24 words ws (1 + 24 * j) (omega arith) (omega arith) n)

  others : (j : ℕ) → (j ≡ lock → ⊥) → slot after j ≡ slot words j
  others j d = go (leb j lock) refl
    where
      go : (b : Bool) → leb j lock ≡ b → slot after j ≡ slot words j
      go true e = let h = leb-true j lock e in below j (omega arith)
      go false e = above j (leb-false j lock e)

  first : get_or after 0 0 ≡ get_or words 0 0
  first =
      sym (get_or-take 1 after 0 0 (omega arith))
      ∙ ap (λ (xs : List ℕ). get_or xs 0 0) (take-put_mid_below at 24 words ws 1 (omega arith) (omega arith))
      ∙ get_or-take 1 words 0 0 (omega arith)

  same : length after ≡ length words
  same = simp (length-append, length-take, length-drop) (omega arith)

  -- these words are written over those of the place
  pub placed : (k : ℕ) (ys result : List ℕ) → k ≡ 24 → ys ≡ ws → result ≡ put_mid at k words ys → Placed words result lock ws
  placed k ys result e f p =
      let q : result ≡ after = p ∙ ap (λ (k : ℕ). put_mid at k words ys) e ∙ ap (put_mid at 24 words) f in
      rw q (record { here = here; others = others; first = first; same = same })

-- a lock in its own place
pub in_place : (words : List ℕ) (lock : ℕ) → Placed words words lock (slot words lock)
in_place words lock = record { here = refl; others = λ j d. refl; first = refl; same = refl }

-- those of another place are copied over them
pub copied : (words : List ℕ) (lock from k : ℕ) → k ≡ 24
    → paste words (1 + 24 * lock) (drop (1 + 24 * from) words) k ≡ put_mid (1 + 24 * lock) 24 words (slot words from)
unfolding slot
copied words lock from k e =
    ap (paste words (1 + 24 * lock) (drop (1 + 24 * from) words)) e
    ∙ append_assoc (take (1 + 24 * lock) words) (take 24 (drop (1 + 24 * from) words)) _
    ∙ ap (λ (xs : List ℕ). take (1 + 24 * lock) words ++ (take 24 (drop (1 + 24 * from) words) ++ xs)) (sym (drop-drop 24 (1 + 24 * lock) words))

pub slot_full : (words : List ℕ) (i : ℕ) → length words ≡ 6145 → i < 256 → length (slot words i) ≡ 24
unfolding slot
slot_full words i l m = simp (length-take, length-drop) (omega arith)
