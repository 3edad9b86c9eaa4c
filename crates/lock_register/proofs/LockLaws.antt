-- The locks of a register depend on their own words alone: a lock more, the count stored, and a release lock by lock.
use mathlib.Core.Path.{◌≡◌, refl, ap, sym, ◌∙◌}
use Prim.Native.Nat.{ℕ, zero, suc, ◌+◌, ◌*◌, ◌%◌, ◌<◌, ◌≤◌, min}
use native.Mathlib.Omega.{arith}
use native.Mathlib.Numerals.{add-one}
use mathlib.Core.List.{List, [], ◌∷◌, ◌++◌, append-nil}
use mathlib.Core.Bool.{Bool, true, false, cond, not}
use lib.Dec.{eqb}
use lib.ListN.{length, get_or, set}
use lib.Seq.{get_or-set_same, drop-set-lt}
use borrow.Author.Tests.{eq-eqb, ne_eqb}
use Rattle.lock_rules.specs.Lock.{Lock}
use Rattle.lock_rules.specs.Register.{keep, release}
use Rattle.lock_rules.specs.Source.{Root}
use Rattle.lock_words.specs.Words.{slot, lock_in, locks_to, locks_in, held_in}
use Rattle.lock_register.specs.Release.{Releases}
use Rattle.lock_words.proofs.WordLaws.{locks_length, slot_at}
use Rattle.lock_words.specs.Place.{Placed}

keep_append : {A : Type 0} (f : A → Bool) (xs ys : List A) → keep f (xs ++ ys) ≡ keep f xs ++ keep f ys
unfolding keep
keep_append f [] ys = refl
keep_append f (x ∷ xs) ys = go (f x) (keep_append f xs ys)
  where
    go : (b : Bool) → keep f (xs ++ ys) ≡ keep f xs ++ keep f ys
        → cond b (x ∷ keep f (xs ++ ys)) (keep f (xs ++ ys)) ≡ cond b (x ∷ keep f xs) (keep f xs) ++ keep f ys
    go true e = rw e
    go false e = e

-- locks depend on their own words alone
pub locks_agree : (n : ℕ) (a b : List ℕ) → ((j : ℕ) → j < n → slot a j ≡ slot b j) → locks_to n a ≡ locks_to n b
unfolding locks_to
locks_agree zero a b e = refl
locks_agree (suc n) a b e = rw (locks_agree n a b (λ j h. e j (omega arith)), e n (omega arith))

pub locks_more : (n : ℕ) (words : List ℕ) → locks_to (n + 1) words ≡ locks_to n words ++ (lock_in (slot words n) ∷ [])
unfolding locks_to
locks_more n words = rw add-one

-- a lock more, put behind the first n
pub locks_put : (words after : List ℕ) (n : ℕ) (ws : List ℕ)
    → Placed words after n ws → locks_to (n + 1) after ≡ locks_to n words ++ (lock_in ws ∷ [])
locks_put words after n ws p =
    locks_more n after ∙ rw (locks_agree n after words (λ j h. p.others j (λ e. omega arith)), p.here)

-- the count word is no lock's
slot_counted : (words : List ℕ) (v j : ℕ) → slot (set words 0 v) j ≡ slot words j
unfolding slot
slot_counted words v j = rw (drop-set-lt (1 + 24 * j) words 0 v (omega arith))

pub locks_counted : (words : List ℕ) (n : ℕ) → 0 < length words → n ≤ 256 → locks_in (set words 0 n) ≡ locks_to n words
locks_counted words n l h =
    let c : get_or (set words 0 n) 0 0 ≡ n = get_or-set_same words 0 n 0 l in
    let m : min n 256 ≡ n = omega arith in
    rw (c, m) (locks_agree n (set words 0 n) words (λ j k. slot_counted words n j))

-- zeros hold nothing, and neither does any register whose first word is 0
pub empty : (words : List ℕ) → get_or words 0 0 ≡ 0 → locks_in words ≡ []
unfolding locks_to
empty words e = rw e

-- ---- A release

abbrev others : ℕ → Lock Root → Bool
others owner l = not (eqb l.owner owner)

-- the locks before i have been looked at, and so many of them stay
pub record Keeping (words after : List ℕ) (owner i kept : ℕ) : Type 0 where
  pub locks : locks_to kept after ≡ release owner (locks_to i words)
  pub behind : (j : ℕ) → i ≤ j → slot after j ≡ slot words j
  pub same : length after ≡ length words

pub keeping : (words : List ℕ) (owner : ℕ) → Keeping words words owner 0 0
unfolding locks_to release keep
keeping words owner = record { locks = refl; behind = λ j h. refl; same = refl }

module _ (words : List ℕ) (owner i : ℕ) where
  last : (b : Bool) → eqb (get_or (slot words i) 0 0 % 4294967296) owner ≡ b
      → keep (others owner) (lock_in (slot words i) ∷ []) ≡ cond b [] (lock_in (slot words i) ∷ [])
  unfolding keep lock_in
  last true e = rw e
  last false e = rw e

  one : (b : Bool) → eqb (get_or (slot words i) 0 0 % 4294967296) owner ≡ b
      → release owner (locks_to (i + 1) words) ≡ release owner (locks_to i words) ++ cond b [] (lock_in (slot words i) ∷ [])
  unfolding release
  one b e =
      rw locks_more
      (keep_append (others owner) (locks_to i words) (lock_in (slot words i) ∷ [])
      ∙ ap (λ (ls : List (Lock Root)). keep (others owner) (locks_to i words) ++ ls) (last b e))

  module _ (after : List ℕ) (kept : ℕ) (t : Keeping words after owner i kept) where
    -- what the first word of lock i says
    first : get_or after (1 + 24 * i) 0 ≡ get_or (slot words i) 0 0
    first =
        let n : 1 + 24 * i + 0 ≡ 1 + 24 * i = omega arith in
        sym (ap (λ (ws : List ℕ). get_or ws 0 0) (sym (t.behind i (omega arith)))
        ∙ slot_at after i 0 (omega arith)
        ∙ ap (λ (k : ℕ). get_or after k 0) n)

    -- a lock of the owner
    pub drops : get_or after (1 + 24 * i) 0 % 4294967296 ≡ owner → Keeping words after owner (i + 1) kept
    drops e =
        let o : get_or (slot words i) 0 0 % 4294967296 ≡ owner = rw first at e in
        record {
          locks = t.locks ∙ sym (one true (eq-eqb _ _ o) ∙ append-nil _);
          behind = λ j h. t.behind j (omega arith);
          same = t.same;
        }

    -- another's
    pub stays : (next : List ℕ) → (get_or after (1 + 24 * i) 0 % 4294967296 ≡ owner → ⊥) → kept ≤ i
        → Placed after next kept (slot after i) → Keeping words next owner (i + 1) (kept + 1)
    stays next d h p =
        let s : slot after i ≡ slot words i = t.behind i (omega arith) in
        record {
          locks = locks_put after next kept (slot after i) p ∙ rw (t.locks, s) (sym (one false (ne_eqb _ _ (rw first at d))));
          behind = λ j k. p.others j (λ e. omega arith) ∙ t.behind j (omega arith);
          same = p.same ∙ t.same;
        }

    -- the count is stored last
    pub keeps : 0 < length words → i ≡ length (locks_in words) → kept ≤ 256 → Releases owner words (set after 0 kept) kept
    keeps l e h =
        let z : 0 < length after = rw t.same l in
        let counted = locks_counted after kept z h in
        record {
          register = counted ∙ t.locks ∙ rw (e ∙ locks_length (held_in words) words) refl;
          answer = sym (ap length counted ∙ locks_length kept after);
        }
