-- A lock and a part by number: it is there exactly where the number is below the count.
use mathlib.Core.Path.{◌≡◌, refl, ap, sym, ◌∙◌}
use Prim.Native.Nat.{ℕ, zero, suc, ◌+◌, ◌%◌, ◌<◌, ◌≤◌, min}
use native.Mathlib.Omega.{arith}
use mathlib.Core.List.{List, [], ◌∷◌, map}
use mathlib.Core.Bool.{false, not}
use lib.Dec.{eqb, ltb}
use lib.ListN.{length, get_or, take, drop, length-map, length-take, length-drop, get_or-map}
use lib.Seq.{get_or-take, get_or-drop}
use borrow.Author.Tests.{false-ltb}
use Rattle.local_format.specs.Refusal.{Refusal, refusal}
use Rattle.local_format.specs.Out.{ok, refused, refuse}
use Rattle.local_format.specs.Number.{numbered}
use Rattle.local_format.proofs.NumberLaws.{not_there_lem}
use Rattle.lock_rules.specs.Lock.{Part, Lock}
use Rattle.lock_rules.specs.Source.{Root, root_under}
use Rattle.lock_words.specs.Words.{source_of, part_in, parts_in, source_in, root_in, lock_in, locks_in}
use Rattle.lock_register.specs.Read.{lock_number, part_number}

numbered_at : {A : Type 0} (i : ℕ) (xs : List A) (d : A) → i < length xs → numbered i xs ≡ ok (get_or xs i d)
unfolding numbered
numbered_at i [] d h = absurd (omega arith)
numbered_at zero (x ∷ xs) d h = refl
numbered_at (suc i) (x ∷ xs) d h = numbered_at i xs d (omega arith)

module _ (ws : List ℕ) (full : length ws ≡ 24) where
  pub parts_length : length (parts_in ws) ≡ min (get_or ws 3 0) 16
  unfolding parts_in
  parts_length =
      length-map (take (min (get_or ws 3 0) 16) (drop 8 ws)) part_in
      ∙ simp (length-take, length-drop) (omega arith)

  pub part_at : (k : ℕ) → k < min (get_or ws 3 0) 16 → get_or (parts_in ws) k (part_in 0) ≡ part_in (get_or ws (8 + k) 0)
  unfolding parts_in
  part_at k h =
      get_or-map part_in (take (min (get_or ws 3 0) 16) (drop 8 ws)) k 0
      ∙ ap part_in (get_or-take (min (get_or ws 3 0) 16) (drop 8 ws) k 0 h ∙ get_or-drop 8 ws k 0)

  pub part_there : (k : ℕ) → k < min (get_or ws 3 0) 16 → numbered k (parts_in ws) ≡ ok (part_in (get_or ws (8 + k) 0))
  part_there k h = numbered_at k (parts_in ws) (part_in 0) (rw parts_length h) ∙ ap ok (part_at k h)

  pub part_not : (k : ℕ) → min (get_or ws 3 0) 16 ≤ k → numbered k (parts_in ws) ≡ refuse 62 0
  part_not k h = not_there_lem k (parts_in ws) (rw parts_length h)

-- ---- The answers

module _ (words : List ℕ) (held : List (List ℕ)) (i : ℕ) (e : map lock_in held ≡ locks_in words) where
  size : length (locks_in words) ≡ length held
  size = ap length (sym e) ∙ length-map held lock_in

  module _ (h : i < length held) (ws : List ℕ) (w : ws ≡ get_or held i []) (full : length ws ≡ 24) where
    there : numbered i (locks_in words) ≡ ok (lock_in ws)
    there =
        numbered_at i (locks_in words) (lock_in []) (rw size h)
        ∙ ap ok (ap (λ (ls : List (Lock Root)). get_or ls i (lock_in [])) (sym e) ∙ get_or-map lock_in held i [] ∙ ap lock_in (sym w))

    pub lock_told : {n : ℕ} → n ≡ min (get_or ws 3 0) 16
        → ok (record {
          owner = get_or ws 0 0 % 4294967296;
          write = not (eqb (get_or ws 1 0) 0);
          root = root_under (source_of (get_or ws 4 0) (get_or ws 5 0) (get_or ws 6 0) (get_or ws 7 0)) (get_or ws 2 0 % 4294967296);
          count = n;
        }) ≡ lock_number i (locks_in words)
    unfolding lock_in root_in source_in
    lock_told k = rw (there, k, ← parts_length ws full)

    pub part_told : (k : ℕ) {p : Part} {n : ℕ} → n ≡ min (get_or ws 3 0) 16 → k < n → p ≡ part_in (get_or ws (8 + k) 0)
        → ok p ≡ part_number i k (locks_in words)
    unfolding lock_in
    part_told k m l a = rw (there, part_there ws full k (rw m at l), a)

    pub part_refused : (k : ℕ) {r : Refusal} {n : ℕ} → n ≡ min (get_or ws 3 0) 16 → n ≤ k → r ≡ refusal 62 0
        → refused r ≡ part_number i k (locks_in words)
    unfolding lock_in
    part_refused k m l a = rw (there, part_not ws full k (rw m at l), a)

  module _ (h : false ≡ ltb i (length held)) {r : Refusal} (f : r ≡ refusal 62 0) where
    not_there : numbered i (locks_in words) ≡ refuse 62 0
    not_there = not_there_lem i (locks_in words) (rw size (false-ltb i (length held) h))

    pub lock_refused : refused r ≡ lock_number i (locks_in words)
    lock_refused = rw (not_there, f)

    pub none_refused : (k : ℕ) → refused r ≡ part_number i k (locks_in words)
    none_refused k = rw (not_there, f)
