-- The phases of a claim, each over its paths one by one; then 66, 67 and 68 in this order, and the stores.
use mathlib.Core.Path.{◌≡◌, refl, ap, sym, ◌∙◌}
use Prim.Native.Nat.{ℕ, zero, suc, ◌+◌, ◌<◌, ◌≤◌}
use native.Mathlib.Omega.{arith}
use native.Mathlib.Numerals.{add-one}
use mathlib.Core.List.{List, [], ◌∷◌, ◌++◌, map, append_assoc, append-nil}
use mathlib.Core.Bool.{Bool, true, false, not, ◌||◌}
use lib.Dec.{eqb, leb}
use lib.ListN.{length, get_or, set, take, length-set, length-append, length-map}
use lib.Seq.{take-suc, take_all}
use borrow.Author.Tests.{le-leb, lt-leb}
use Rattle.local_format.specs.Refusal.{Refusal, refusal}
use Rattle.local_format.specs.Out.{ok, refused}
use Rattle.semcode_records.specs.Records.{Taken}
use Rattle.semcode_records.specs.Path.{Path, path_at}
use Rattle.lock_rules.specs.Lock.{Lock, lock_of}
use Rattle.lock_rules.specs.Register.{any, long_path, hindered, claimed}
use Rattle.lock_rules.proofs.ListLaws.{any_append, map_append}
use Rattle.lock_rules.specs.Source.{Root, same_root, root_under}
use Rattle.lock_words.specs.Words.{lock_in, locks_to, locks_in, held_in}
use Rattle.lock_words.specs.Place.{Placed}
use Rattle.lock_register.specs.Meet.{met_by}
use Rattle.locks.specs.Phase.{Front, FrontOf, KeyOf, no_path, Listed, LongAnswer, MetAnswer, Stored, TriedPaths}
use Rattle.lock_words.proofs.WordLaws.{locks_length}
use Rattle.lock_register.proofs.LockLaws.{locks_put, locks_counted}
use Rattle.lock_register.proofs.MeetLaws.{no_root}

-- ---- Some of a list

or_true : (b : Bool) → (b || true) ≡ true
or_true true = refl
or_true false = refl

module _ {A : Type 0} (f : A → Bool) where
  some_at : (xs : List A) (i : ℕ) (d : A) → i < length xs → f (get_or xs i d) ≡ true → any f xs ≡ true
  unfolding any
  some_at [] i d h e = absurd (omega arith)
  some_at (x ∷ xs) zero d h e = rw e
  some_at (x ∷ xs) (suc i) d h e = rw (some_at xs i d (omega arith) e) (or_true (f x))

  none_at : (xs : List A) (i : ℕ) (d : A) → i < length xs → any f xs ≡ false → f (get_or xs i d) ≡ false
  none_at xs i d h e = go (f (get_or xs i d)) refl
    where
      go : (b : Bool) → f (get_or xs i d) ≡ b → b ≡ false
      go true k = sym (some_at xs i d h k) ∙ e
      go false k = refl

  none_before : (xs : List A) → any f (take 0 xs) ≡ false
  unfolding any
  none_before xs = refl

  none_more : (xs : List A) (i : ℕ) (d : A) → i < length xs → any f (take i xs) ≡ false → f (get_or xs i d) ≡ false
      → any f (take (i + 1) xs) ≡ false
  unfolding any
  none_more xs i d h e k =
      rw (add-one, take-suc xs i d h) (any_append f (take i xs) (get_or xs i d ∷ []) ∙ rw (e, k))

  none_all : (xs : List A) (i : ℕ) → i ≡ length xs → any f (take i xs) ≡ false → any f xs ≡ false
  none_all xs i p e = rw (take_all i xs (omega arith)) at e

-- ---- 66

module _ (revision : ℕ) (s starts : List ℕ) (count : ℕ) where
  -- no path before i is long
  pub Short : ℕ → Type 0
  Short i = (paths : List Path) → Listed revision s starts count paths → any long_path (take i paths) ≡ false

  pub short_none : Short 0
  unfolding Short
  short_none paths l = none_before long_path paths

  module _ (i : ℕ) (h : i < count) (f : Front) (is : FrontOf (path_at revision s (get_or starts i 0)) f) where
    components : (paths : List Path) → Listed revision s starts count paths → f.count ≡ length (get_or paths i no_path).components.entries
    components paths l = let p = l.each i h in ap (λ (f : Front). f.count) (is (record { value = _; next = p.next }) p.is_read)

    pub long_found : 16 < f.count → LongAnswer revision s starts count true
    long_found g paths l =
        let c = components paths l in
        let m = l.many in
        sym (some_at long_path paths i no_path (omega arith) (ap not (lt-leb (length (get_or paths i no_path).components.entries) 16 (omega arith))))

    pub short_more : f.count ≤ 16 → Short i → Short (i + 1)
    unfolding Short
    short_more g k paths l =
        let c = components paths l in
        let m = l.many in
        none_more long_path paths i no_path (omega arith) (k paths l)
        (ap not (le-leb (length (get_or paths i no_path).components.entries) 16 (omega arith)))

  -- where no path is read, none stands
  pub short_past : (i : ℕ) → i < count → ((t : Taken Path) → path_at revision s (get_or starts i 0) ≡ ok t → ⊥) → Short (i + 1)
  unfolding Short
  short_past i h none paths l = let p = l.each i h in absurd (none (record { value = _; next = p.next }) p.is_read)

  pub short_all : (i : ℕ) → i ≡ count → Short i → LongAnswer revision s starts count false
  unfolding Short
  short_all i p k paths l = let m = l.many in sym (none_all long_path paths i (omega arith) (k paths l))

  -- ---- 67
  module _ (source : List ℕ) (owner : ℕ) (words : List ℕ) where
    abbrev meets : Path → Bool
    meets p = hindered same_root (root_under source) owner (locks_in words) p

    pub Free : ℕ → Type 0
    Free i = (paths : List Path) → Listed revision s starts count paths → any long_path paths ≡ false → any meets (take i paths) ≡ false

    pub free_none : Free 0
    unfolding Free
    free_none paths l e = none_before meets paths

    -- no lock has the root's symbol
    pub free_other : (i : ℕ) → i < count → (f : Front) → FrontOf (path_at revision s (get_or starts i 0)) f
        → any (λ l. eqb l.root.symbol f.root) (locks_in words) ≡ false → Free i → Free (i + 1)
    unfolding Free
    free_other i h f is none free paths l e =
        let m = l.many in
        let p = l.each i h in
        let r : f.root ≡ (get_or paths i no_path).root = ap (λ (f : Front). f.root) (is (record { value = _; next = p.next }) p.is_read) in
        none_more meets paths i no_path (omega arith) (free paths l e)
        (no_root (locks_in words) (lock_of (root_under source) owner (get_or paths i no_path)) (rw r at none))

    pub free_past : (i : ℕ) → i < count → ((t : Taken Path) → path_at revision s (get_or starts i 0) ≡ ok t → ⊥) → Free (i + 1)
    unfolding Free
    free_past i h none paths l e = let p = l.each i h in absurd (none (record { value = _; next = p.next }) p.is_read)

    module _ (i : ℕ) (h : i < count) (key : List ℕ) (k : KeyOf (path_at revision s (get_or starts i 0)) source owner key) where
      key_is : (paths : List Path) → Listed revision s starts count paths → any long_path paths ≡ false
          → lock_in key ≡ lock_of (root_under source) owner (get_or paths i no_path)
      key_is paths l e =
          let m = l.many in
          let p = l.each i h in
          k (record { value = get_or paths i no_path; next = p.next }) p.is_read (none_at long_path paths i no_path (omega arith) e)

      pub met_found : met_by (lock_in key) (locks_in words) ≡ true → MetAnswer revision s starts count source owner words true
      met_found g paths l e =
          let m = l.many in
          sym (some_at meets paths i no_path (omega arith) (rw (key_is paths l e) at g))

      pub free_more : met_by (lock_in key) (locks_in words) ≡ false → Free i → Free (i + 1)
      unfolding Free
      free_more g f paths l e =
          let m = l.many in
          none_more meets paths i no_path (omega arith) (f paths l e) (rw (key_is paths l e) at g)

    pub free_all : (i : ℕ) → i ≡ count → Free i → MetAnswer revision s starts count source owner words false
    unfolding Free
    free_all i p f paths l e = let m = l.many in sym (none_all meets paths i (omega arith) (f paths l e))

    -- ---- The stores

    -- a lock for each path before i
    pub record Storing (i : ℕ) (after : List ℕ) : Type 0 where
      pub locks : (paths : List Path) → Listed revision s starts count paths → any long_path paths ≡ false
          → locks_to (held_in words + i) after ≡ locks_in words ++ map (lock_of (root_under source) owner) (take i paths)
      pub same : length after ≡ length words

    pub storing : Storing 0 words
    storing =
        record {
          locks = λ paths l e. ap (λ (n : ℕ). locks_to n words) (plus_zero (held_in words)) ∙ sym (append-nil (locks_in words));
          same = refl;
        }
      where
        plus_zero : (n : ℕ) → n + 0 ≡ n
        plus_zero n = omega arith

    module _ (i : ℕ) (h : i < count) (key : List ℕ) (k : KeyOf (path_at revision s (get_or starts i 0)) source owner key) (after : List ℕ)
        (x : Storing i after) where
      pub stores : (to : ℕ) (next : List ℕ) → to ≡ held_in words + i → Placed after next to key → Storing (i + 1) next
      stores to next is_to p = record { locks = λ paths l e. go paths l e; same = p.same ∙ x.same }
        where
          go : (paths : List Path) → Listed revision s starts count paths → any long_path paths ≡ false
              → locks_to (held_in words + (i + 1)) next ≡ locks_in words ++ map (lock_of (root_under source) owner) (take (i + 1) paths)
          go paths l e =
              let m = l.many in
              let g : i < length paths = omega arith in
              let one : List (Lock Root) = lock_of (root_under source) owner (get_or paths i no_path) ∷ [] in
              let a : held_in words + (i + 1) ≡ to + 1 = omega arith in
              let t : map (lock_of (root_under source) owner) (take (i + 1) paths) ≡ map (lock_of (root_under source) owner) (take i paths) ++ one =
              rw (add-one, take-suc paths i no_path g) (map_append (lock_of (root_under source) owner) (take i paths) (get_or paths i no_path ∷ [])) in
              ap (λ (j : ℕ). locks_to j next) a
              ∙ locks_put after next to key p
              ∙ ap (λ (j : ℕ). locks_to j after ++ (lock_in key ∷ [])) is_to
              ∙ rw (x.locks paths l e, key_is i h key k paths l e, t, append_assoc)

    -- where no path is read, none stands
    pub stores_past : (i : ℕ) → i < count → ((t : Taken Path) → path_at revision s (get_or starts i 0) ≡ ok t → ⊥) → (after : List ℕ)
        → Storing i after → Storing (i + 1) after
    stores_past i h none after x =
        record { locks = λ paths l e. let p = l.each i h in absurd (none (record { value = _; next = p.next }) p.is_read); same = x.same }

    pub stored : (i total : ℕ) (after : List ℕ) → Storing i after → i ≡ count → total ≡ held_in words + i → total ≤ 256
        → 0 < length words → Stored revision s starts count source owner words (set after 0 total)
    stored i total after x p t h z =
        record { locks = λ paths l e. go paths l e; same = length-set after 0 total ∙ x.same }
      where
        go : (paths : List Path) → Listed revision s starts count paths → any long_path paths ≡ false
            → locks_in (set after 0 total) ≡ locks_in words ++ map (lock_of (root_under source) owner) paths
        go paths l e =
            let m = l.many in
            locks_counted after total (rw x.same z) h
            ∙ ap (λ (j : ℕ). locks_to j after) t
            ∙ x.locks paths l e
            ∙ ap (λ (ps : List Path). locks_in words ++ map (lock_of (root_under source) owner) ps) (take_all i paths (omega arith))

-- ---- 66, 67, 68, and the locks

module _ (revision : ℕ) (s starts : List ℕ) (count : ℕ) (source : List ℕ) (owner : ℕ) (words : List ℕ) where
  module _ {r : Refusal} where
    pub tried_long : LongAnswer revision s starts count true → r ≡ refusal 66 0
        → TriedPaths revision s starts count source owner (refused r) words words
    unfolding claimed
    tried_long a e paths l = rw (← a paths l, e) (record { told = refl; left = refl })

    module _ (a : LongAnswer revision s starts count false) where
      pub tried_met : MetAnswer revision s starts count source owner words true → r ≡ refusal 67 0
          → TriedPaths revision s starts count source owner (refused r) words words
      unfolding claimed
      tried_met b e paths l = rw (← a paths l, ← b paths l (sym (a paths l)), e) (record { told = refl; left = refl })

      pub tried_full : MetAnswer revision s starts count source owner words false → 256 < held_in words + count → r ≡ refusal 68 0
          → TriedPaths revision s starts count source owner (refused r) words words
      unfolding claimed
      tried_full b h e paths l =
          let m = l.many in
          let n = locks_length (held_in words) words in
          let full : leb (length (locks_in words) + length paths) 256 ≡ false = lt-leb (length (locks_in words) + length paths) 256 (omega arith) in
          rw (← a paths l, ← b paths l (sym (a paths l)), full, e) (record { told = refl; left = refl })

  pub tried_stored : (n : ℕ) (after : List ℕ) → LongAnswer revision s starts count false → MetAnswer revision s starts count source owner words false
      → held_in words + count ≤ 256 → n ≡ held_in words + count → Stored revision s starts count source owner words after
      → TriedPaths revision s starts count source owner (ok n) words after
  unfolding claimed
  tried_stored n after a b h e x paths l =
      let m = l.many in
      let k = locks_length (held_in words) words in
      let room : leb (length (locks_in words) + length paths) 256 ≡ true = le-leb (length (locks_in words) + length paths) 256 (omega arith) in
      let z : length (locks_in words ++ map (lock_of (root_under source) owner) paths) ≡ n =
      length-append (locks_in words) (map (lock_of (root_under source) owner) paths)
      ∙ rw (length-map paths (lock_of (root_under source) owner)) (omega arith) in
      rw (← a paths l, ← b paths l (sym (a paths l)), room) (record { told = ap ok (sym z); left = x.locks paths l (sym (a paths l)) })
