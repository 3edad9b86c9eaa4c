-- A part's word read back; where the words of a lock stand, and that the parts of 24 after the first word are the locks.
use mathlib.Core.Path.{◌≡◌, refl, ap, ap₂, ◌∙◌}
use Prim.Native.Nat.{ℕ, zero, suc, ◌+◌, ◌*◌, ◌/◌, ◌<◌, ◌≤◌}
use native.Mathlib.Omega.{arith}
use mathlib.Core.List.{List, [], ◌∷◌, ◌++◌, map}
use lib.ListN.{length, get_or, take, drop, length-append, length-drop}
use lib.Seq.{get_or-take, get_or-drop, drop-drop, take-suc, take_all}
use Rattle.std.specs.Simd.{first_chunks}
use Rattle.std.proofs.lemmas.List.{map-append}
use Rattle.lock_words.specs.Words.{part_in, lock_in, slot, locks_to, locks_in, held_in}
use Rattle.lock_words.specs.Maps.{part}
use Rattle.lock_rules.specs.Lock.{part_of}
use Rattle.semcode_records.specs.Numbers as numbers
use Rattle.semcode_records.specs.Component.{Component, tuple_index, field_symbol, variant, sequence_index}

parts : {k f s a b c : ℕ} → a ≡ k → b ≡ f → c ≡ s → part a b c ≡ part k f s
parts p q r = cc

pub packed_part : (k f s : ℕ) → k < 4 → f < 4294967296 → s < 65536 → part_in (k + 4 * f + 17179869184 * s) ≡ part k f s
unfolding part_in
packed_part k f s a b c = parts (omega arith) (omega arith) (omega arith)

pub kind_few : (c : Component) → (numbers.parts c).kind < 4
kind_few (tuple_index i) = omega arith
kind_few (field_symbol f) = omega arith
kind_few (variant v i) = omega arith
kind_few (sequence_index i) = omega arith

pub component_part : (c : Component) → part (numbers.parts c).kind (numbers.parts c).first (numbers.parts c).second ≡ part_of c
component_part (tuple_index i) = refl
component_part (field_symbol f) = refl
component_part (variant v i) = refl
component_part (sequence_index i) = refl

pub slot_at : (words : List ℕ) (i k : ℕ) → k < 24 → get_or (slot words i) k 0 ≡ get_or words (1 + 24 * i + k) 0
unfolding slot
slot_at words i k h = rw (get_or-take 24 (drop (1 + 24 * i) words) k 0 h, get_or-drop (1 + 24 * i) words k 0)

-- ---- The locks

pub locks_length : (n : ℕ) (words : List ℕ) → length (locks_to n words) ≡ n
unfolding locks_to
locks_length zero words = refl
locks_length (suc n) words =
    length-append (locks_to n words) (lock_in (slot words n) ∷ []) ∙ rw (locks_length n words) (omega arith)

chunks_length : (k : ℕ) (xs : List ℕ) → length (first_chunks 24 k xs) ≡ k
chunks_length zero xs = refl
chunks_length (suc k) xs = ap suc (chunks_length k (drop 24 xs))

chunk_at : (k i : ℕ) (xs : List ℕ) → i < k → get_or (first_chunks 24 k xs) i [] ≡ take 24 (drop (24 * i) xs)
chunk_at zero i xs h = absurd (omega arith)
chunk_at (suc k) zero xs h = refl
chunk_at (suc k) (suc i) xs h =
    let n : 24 + 24 * i ≡ 24 * suc i = omega arith in
    chunk_at k i (drop 24 xs) (omega arith) ∙ ap (take 24) (drop-drop (24 * i) 24 xs ∙ ap (λ (n : ℕ). drop n xs) n)

chunks_are : (words : List ℕ) (k n : ℕ) → n ≤ k → map lock_in (take n (first_chunks 24 k (drop 1 words))) ≡ locks_to n words
unfolding locks_to slot
chunks_are words k zero h = refl
chunks_are words k (suc n) h =
    let chunks : List (List ℕ) = first_chunks 24 k (drop 1 words) in
    let size = chunks_length k (drop 1 words) in
    ap (map lock_in) (take-suc chunks n [] (omega arith))
    ∙ map-append lock_in (take n chunks) (get_or chunks n [] ∷ [])
    ∙ ap₂ ◌++◌ (chunks_are words k n (omega arith))
    (ap (λ (ws : List ℕ). lock_in ws ∷ []) (chunk_at k n (drop 1 words) (omega arith) ∙ ap (take 24) (drop-drop (24 * n) 1 words)))

-- those that are held, of all 256 parts
module _ (words : List ℕ) (size held : ℕ) (l : length words ≡ 6145) (e : size ≡ 24) (h : held ≡ length (locks_in words)) where
  count : held ≡ held_in words
  count = h ∙ locks_length (held_in words) words

  behind : take 6144 (drop 1 words) ≡ drop 1 words
  behind = let n = length-drop 1 words in take_all 6144 (drop 1 words) (omega arith)

  all : length (take 6144 (drop 1 words)) / size ≡ 256
  all = let n : length (drop 1 words) ≡ 6144 = length-drop 1 words ∙ rw l refl in rw (behind, n, e)

  pub held_within : (chunks : ℕ) → chunks ≡ length (take 6144 (drop 1 words)) / size → held ≤ chunks
  held_within chunks f = rw (f, all, count) (omega arith)

  pub held_are : (chunks : List (List ℕ)) → chunks ≡ first_chunks size (length (take 6144 (drop 1 words)) / size) (take 6144 (drop 1 words))
      → map lock_in (take held chunks) ≡ locks_in words
  held_are chunks f = rw (f, all, count, behind, e) (chunks_are words 256 (held_in words) (omega arith))
