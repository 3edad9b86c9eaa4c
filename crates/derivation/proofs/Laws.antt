-- The last pass, the way down and the marks by one step, in the terms of a loop: k are left, and then k - 1.
use Prim.Native.Nat.{ℕ, zero, suc, ◌+◌, ◌-◌, ◌*◌, ◌≤◌, ◌<◌, max}
use mathlib.Core.Path.{◌≡◌, refl, sym, ◌∙◌}
use mathlib.Core.Bool.{Bool, true, false, ◌&&◌}
use mathlib.Core.List.{List, [], ◌∷◌, ◌++◌}
use native.Mathlib.Omega.{arith}
use native.Mathlib.Numerals.{add-one, sub-one}
use lib.ListN.{get_or}
use lib.Dec.{ltb, leb}
use borrow.Author.Tests.{le-leb, lt-leb, eq-eqb, ne_eqb}
use Rattle.local_format.specs.Refusal.{Refusal}
use Rattle.local_format.specs.Out.{ok, refused, refuse}
use Rattle.local_format.proofs.OutLaws.{on_ok, on_refused}
use Rattle.derivation.specs.Section.{Proof, Section, proof_at, parent_at}
use Rattle.derivation.specs.Pass.{agrees, parents_from, witnesses_from, depth_of, depths_from}
use Rattle.derivation.specs.Down.{witness, spent, down_from}
use Rattle.derivation.specs.InOrder.{in_order, gathered}
use Rattle.derivation.specs.Mark.{end_polarity, end_mark, joined, mark_of}

module _ (cells_at : ℕ) (s : Section) where
  module _ (p : Proof) where
    -- ---- The parents of a proof
    abbrev suits_place : ℕ → ℕ → Bool
    suits_place c least = ltb (parent_at s c) p.number && leb least (parent_at s c)

    module _ (ds : List ℕ) where
      pub parents_none : (k c least m : ℕ) → k ≤ 0 → parents_from cells_at s p ds k c least m ≡ ok m
      unfolding parents_from
      parents_none zero c least m h = refl
      parents_none (suc k) c least m h = absurd (omega arith)

      pub parents_25 : (k c least m : ℕ) → 0 < k → suits_place c least ≡ false → parents_from cells_at s p ds k c least m ≡ refuse 25 (cells_at + 4 * c)
      unfolding parents_from
      parents_25 zero c least m h e = absurd (omega arith)
      parents_25 (suc k) c least m h e = simp e

      pub parents_26 : (k c least m : ℕ) → 0 < k → suits_place c least ≡ true → agrees s p (parent_at s c) ≡ false
          → parents_from cells_at s p ds k c least m ≡ refuse 26 (cells_at + 4 * c)
      unfolding parents_from
      parents_26 zero c least m h e a = absurd (omega arith)
      parents_26 (suc k) c least m h e a = simp (e, a)

      pub parents_turn : (k c least m : ℕ) → 0 < k → suits_place c least ≡ true → agrees s p (parent_at s c) ≡ true
          → parents_from cells_at s p ds k c least m ≡ parents_from cells_at s p ds (k - 1) (c + 1) (parent_at s c + 1) (max m (get_or ds (parent_at s c) 0))
      unfolding parents_from
      parents_turn zero c least m h e a = absurd (omega arith)
      parents_turn (suc k) c least m h e a = simp (e, a, sub-one, add-one)

    -- ---- The witnesses of a proof
    pub witnesses_none : (k w : ℕ) → k ≤ 0 → witnesses_from cells_at s p k w ≡ ok tt
    unfolding witnesses_from
    witnesses_none zero w h = refl
    witnesses_none (suc k) w h = absurd (omega arith)

    -- ---- One proof
    module _ (ds : List ℕ) where
      pub depth_27 : (m : ℕ) → parents_from cells_at s p ds p.parent_count p.first_parent 0 0 ≡ ok m → 256 ≤ m → depth_of cells_at s p ds ≡ refuse 27 0
      unfolding depth_of
      depth_27 m e h = on_ok _ e ∙ simp (lt-leb (suc m) 256 (omega arith))

      pub depth_ok : (m : ℕ) → parents_from cells_at s p ds p.parent_count p.first_parent 0 0 ≡ ok m → m < 256
          → witnesses_from cells_at s p p.witness_count p.first_witness ≡ ok tt → depth_of cells_at s p ds ≡ ok (m + 1)
      unfolding depth_of
      depth_ok m e h w = on_ok _ e ∙ simp (le-leb (suc m) 256 h, w, add-one)

  -- ---- All proofs
  pub pass_none : (n i : ℕ) (ds : List ℕ) → n ≤ 0 → depths_from cells_at s n i ds ≡ ok ds
  unfolding depths_from
  pass_none zero i ds h = refl
  pass_none (suc n) i ds h = absurd (omega arith)

  pub pass_refused : (n i : ℕ) (ds : List ℕ) (r : Refusal) → 0 < n → depth_of cells_at s (proof_at s i) ds ≡ refused r → depths_from cells_at s n i ds
      ≡ refused r
  unfolding depths_from
  pass_refused zero i ds r h e = absurd (omega arith)
  pass_refused (suc n) i ds r h e = on_refused _ e

  pub pass_turn : (n i : ℕ) (ds : List ℕ) (d : ℕ) → 0 < n → depth_of cells_at s (proof_at s i) ds ≡ ok d
      → depths_from cells_at s n i ds ≡ depths_from cells_at s (n - 1) (i + 1) (ds ++ (d ∷ []))
  unfolding depths_from
  pass_turn zero i ds d h e = absurd (omega arith)
  pass_turn (suc n) i ds d h e = on_ok _ e ∙ sym (simp (sub-one, add-one))

-- ---- The way down
module _ (s : Section) where
  pub down_end : (limit k moves : ℕ) → (proof_at s k).parent_count ≡ 0 → down_from s limit k moves ≡ witness (proof_at s k).first_witness moves
  unfolding down_from
  down_end zero k moves z = simp (eq-eqb _ _ z)
  down_end (suc limit) k moves z = simp (eq-eqb _ _ z)

  pub down_spent : (limit k moves : ℕ) → limit ≤ 0 → ((proof_at s k).parent_count ≡ 0 → ⊥) → down_from s limit k moves ≡ spent k
  unfolding down_from
  down_spent zero k moves h z = simp (ne_eqb _ _ z)
  down_spent (suc limit) k moves h z = absurd (omega arith)

  pub down_turn : (limit k moves : ℕ) → 0 < limit → ((proof_at s k).parent_count ≡ 0 → ⊥)
      → down_from s limit k moves ≡ down_from s (limit - 1) (parent_at s (proof_at s k).first_parent) (moves + 1)
  unfolding down_from
  down_turn zero k moves h z = absurd (omega arith)
  down_turn (suc limit) k moves h z = simp (ne_eqb _ _ z, sub-one, add-one)

-- ---- A number for each proof
module _ (f : ℕ → List ℕ → ℕ) where
  pub in_order_none : (n i : ℕ) (xs : List ℕ) → n ≤ 0 → in_order f n i xs ≡ xs
  unfolding in_order
  in_order_none zero i xs h = refl
  in_order_none (suc n) i xs h = absurd (omega arith)

  pub in_order_turn : (n i : ℕ) (xs : List ℕ) → 0 < n → in_order f n i xs ≡ in_order f (n - 1) (i + 1) (xs ++ (f i xs ∷ []))
  unfolding in_order
  in_order_turn zero i xs h = absurd (omega arith)
  in_order_turn (suc n) i xs h = simp (sub-one, add-one)

module _ (with : ℕ → ℕ → ℕ) (s : Section) (xs : List ℕ) where
  pub gathered_none : (k c m : ℕ) → k ≤ 0 → gathered with s xs k c m ≡ m
  unfolding gathered
  gathered_none zero c m h = refl
  gathered_none (suc k) c m h = absurd (omega arith)

  pub gathered_turn : (k c m : ℕ) → 0 < k → gathered with s xs k c m ≡ gathered with s xs (k - 1) (c + 1) (with m (get_or xs (parent_at s c) 0))
  unfolding gathered
  gathered_turn zero c m h = absurd (omega arith)
  gathered_turn (suc k) c m h = simp (sub-one, add-one)

module _ (s : Section) (i : ℕ) (ms : List ℕ) where
  pub mark_end : (proof_at s i).parent_count ≡ 0 → mark_of s i ms ≡ end_mark (end_polarity s i)
  unfolding mark_of
  mark_end z = simp (eq-eqb _ _ z)

  pub mark_inner : ((proof_at s i).parent_count ≡ 0 → ⊥) → mark_of s i ms ≡ gathered joined s ms (proof_at s i).parent_count (proof_at s i).first_parent 0
  unfolding mark_of
  mark_inner z = simp (ne_eqb _ _ z)
