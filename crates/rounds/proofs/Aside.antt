-- The last pass with 28 and 29 left aside: each proof's parents and 27 alone. What the last pass answers is answered so too, but for 28 and 29.
use Prim.Native.Nat.{ℕ, zero, suc, ◌≤◌, ◌<◌}
use mathlib.Core.Path.{◌≡◌, refl, sym, ap, ◌∙◌, subst}
use mathlib.Core.Bool.{Bool, true, false}
use mathlib.Core.List.{List, [], ◌∷◌, ◌++◌}
use native.Mathlib.Omega.{arith}
use lib.ListN.{get_or-map, length-map}
use lib.Dec.{leb, eqb}
use Rattle.local_format.specs.Refusal.{Refusal}
use Rattle.local_format.specs.Out.{Out, ok, refused, check, ◌>>=◌, ◌>>◌}
use Rattle.local_format.proofs.OutLaws.{on_ok, on_refused}
use Rattle.local_format.proofs.Each.{Refuses, answers, then, under, on_check, each_refused}
use Rattle.derivation.specs.Rule.{polarity_fits}
use Rattle.derivation.specs.Section.{Proof, Section, no_proof, proof_at, witness_at, parent_at, proof_total}
use Rattle.derivation.specs.Pass.{agrees, parents_from, witnesses_from, depth_of, depths_from, depths}
use Rattle.rounds.specs.Rounds.{kin_of, kin_from, kin}
use Rattle.rounds.specs.Height.{greatest, unasked, left_aside}
use Rattle.rounds.proofs.Kin.{apart}

module _ (cells_at : ℕ) (s : Section) where
  proof_aside : (j : ℕ) → proof_at (left_aside s) j ≡ unasked (proof_at s j)
  unfolding proof_at left_aside
  proof_aside j = get_or-map unasked s.proofs j no_proof

  pub total_aside : proof_total (left_aside s) ≡ proof_total s
  unfolding proof_total left_aside
  total_aside = length-map s.proofs unasked

  parent_aside : (c : ℕ) → parent_at (left_aside s) c ≡ parent_at s c
  unfolding parent_at left_aside
  parent_aside c = refl

  agrees_aside : (p : Proof) (j : ℕ) → agrees (left_aside s) (unasked p) j ≡ agrees s p j
  unfolding agrees
  agrees_aside p j = simp (proof_aside j)

  parents_aside : (p : Proof) (ds : List ℕ) (k c least m : ℕ)
      → parents_from cells_at (left_aside s) (unasked p) ds k c least m ≡ parents_from cells_at s p ds k c least m
  unfolding parents_from
  parents_aside p ds zero c least m = refl
  parents_aside p ds (suc k) c least m = simp (parent_aside c, agrees_aside p (parent_at s c), parents_aside p ds k (suc c) (suc (parent_at s c)))

  -- one proof, with no witness asked
  unfoldable pub depth_aside : Proof → List ℕ → Out ℕ
  depth_aside p ds = do
    deepest ← parents_from cells_at s p ds p.parent_count p.first_parent 0 0
    check (leb (suc deepest) 256) 27 0
    ok (suc deepest)

  pub depth_aside_lem : (i : ℕ) (ds : List ℕ) → depth_of cells_at (left_aside s) (proof_at (left_aside s) i) ds ≡ depth_aside (proof_at s i) ds
  unfolding depth_of depth_aside witnesses_from
  depth_aside_lem i ds = rw (proof_aside i, parents_aside (proof_at s i) ds (proof_at s i).parent_count (proof_at s i).first_parent 0 0)

-- ---- The witnesses are refused with 28 and 29 alone

witnesses_refuse : (cells_at : ℕ) (s : Section) (p : Proof) (k w : ℕ) → Refuses (λ r. 27 < r.number) (witnesses_from cells_at s p k w)
unfolding witnesses_from
witnesses_refuse cells_at s p zero w = answers tt
witnesses_refuse cells_at s p (suc k) w =
    on_check (eqb (witness_at s w).proposition p.proposition) 28 0 _ (omega arith)
    (on_check (polarity_fits p.rule (witness_at s w).polarity) 29 0 _ (omega arith) (witnesses_refuse cells_at s p k (suc w)))

-- ---- Answers that are no refusal above a number

abbrev pub UpTo : {A : Type 0} → ℕ → Out A → Type 0
UpTo k (ok a) = Unit {0}
UpTo k (refused r) = r.number ≤ k

-- a step that refuses only above that number has not refused
module _ {A B : Type 0} (k : ℕ) {x : Out B} (upto : UpTo k x) where
  past : (z : Out A) (f : A → Out B) → ((r : Refusal) → z ≡ refused r → k < r.number) → (z >>= f) ≡ x → (a : A) × (f a ≡ x)
  past (ok a) f late e = (a, e)
  past (refused r) f late e = absurd (let low : r.number ≤ k = subst (UpTo k) (sym e) upto in omega (arith, late r refl))

  past_then : (z : Out A) (y : Out B) → ((r : Refusal) → z ≡ refused r → k < r.number) → (z >> y) ≡ x → y ≡ x
  past_then (ok a) y late e = e
  past_then (refused r) y late e = absurd (let low : r.number ≤ k = subst (UpTo k) (sym e) upto in omega (arith, late r refl))

module _ (cells_at : ℕ) (s : Section) where
  -- ---- One proof
  module _ (p : Proof) (ds : List ℕ) where
    -- what comes after the parents
    abbrev after : ℕ → Out ℕ
    after deepest = check (leb (suc deepest) 256) 27 0 >> (witnesses_from cells_at s p p.witness_count p.first_witness >> ok (suc deepest))

    after_refuses : (m : ℕ) → Refuses (λ r. 26 < r.number) (after m)
    after_refuses m = on_check (leb (suc m) 256) 27 0 _ (omega arith) (then (under (witnesses_refuse cells_at s p _ _) (λ r l. omega arith)) (answers tt))

    after_kept : (m : ℕ) (x : Out ℕ) → after m ≡ x → UpTo 27 x → (check (leb (suc m) 256) 27 0 >> ok (suc m)) ≡ x
    after_kept m x e u = go (leb (suc m) 256) e
      where
        go : (b : Bool) → (check b 27 0 >> (witnesses_from cells_at s p p.witness_count p.first_witness >> ok (suc m))) ≡ x → (check b 27 0 >> ok (suc m)) ≡ x
        go true e =
            past_then 27 u (witnesses_from cells_at s p p.witness_count p.first_witness) _ (λ r e. each_refused (witnesses_refuse cells_at s p _ _) e) e
        go false e = e

    depth_kept : (x : Out ℕ) → depth_of cells_at s p ds ≡ x → UpTo 27 x → depth_aside cells_at s p ds ≡ x
    unfolding depth_of depth_aside
    depth_kept x e u = go (parents_from cells_at s p ds p.parent_count p.first_parent 0 0) e
      where
        go : (y : Out ℕ) → (y >>= after) ≡ x → (y >>= λ m. check (leb (suc m) 256) 27 0 >> ok (suc m)) ≡ x
        go (ok m) e = after_kept m x e u
        go (refused r) e = e

  -- ---- All proofs

  -- the pass after the proof i, whose depth is d
  abbrev onward : Section → ℕ → ℕ → List ℕ → ℕ → Out (List ℕ)
  onward s n i ds d = depths_from cells_at s n (suc i) (ds ++ (d ∷ []))

  -- but for 28 and 29, the answer stays
  all_kept : (n i : ℕ) (ds : List ℕ) (x : Out (List ℕ)) → depths_from cells_at s n i ds ≡ x → UpTo 27 x → depths_from cells_at (left_aside s) n i ds ≡ x
  unfolding depths_from
  all_kept zero i ds x e u = e
  all_kept (suc n) i ds x e u = go _ refl e (λ d e. all_kept n (suc i) (ds ++ (d ∷ [])) x e u)
    where
      kept : (y : Out ℕ) → depth_of cells_at s (proof_at s i) ds ≡ y → UpTo 27 y → depth_of cells_at (left_aside s) (proof_at (left_aside s) i) ds ≡ y
      kept y q u = depth_aside_lem cells_at s i ds ∙ depth_kept (proof_at s i) ds y q u

      go : (y : Out ℕ) → depth_of cells_at s (proof_at s i) ds ≡ y → (y >>= onward s n i ds) ≡ x
          → ((d : ℕ) → onward s n i ds d ≡ x → onward (left_aside s) n i ds d ≡ x)
          → (depth_of cells_at (left_aside s) (proof_at (left_aside s) i) ds >>= onward (left_aside s) n i ds) ≡ x
      go (ok d) q e later = on_ok _ (kept (ok d) q tt) ∙ later d e
      go (refused r) q e later = on_refused _ (kept (refused r) q (subst (UpTo 27) (sym e) u)) ∙ e

  pub kept_aside : (x : Out (List ℕ)) → depths cells_at s ≡ x → UpTo 27 x → depths cells_at (left_aside s) ≡ x
  unfolding depths
  kept_aside x e u = ap (λ (n : ℕ). depths_from cells_at (left_aside s) n 0 []) (total_aside cells_at s) ∙ all_kept (proof_total s) 0 [] x e u

  -- the checks of the parents alone: passed where the last pass accepts, and refused as it refuses with 25 or 26
  kin_of_lem : (n i : ℕ) (ds : List ℕ) (x : Out (List ℕ)) → depths_from cells_at s n i ds ≡ x → UpTo 26 x → kin_from cells_at s n i ≡ (x >> ok tt)
  unfolding depths_from depth_of kin_from
  kin_of_lem zero i ds x e u = ap (λ (x : Out (List ℕ)). x >> ok tt) e
  kin_of_lem (suc n) i ds x e u =
      let e' = ap (λ (y : Out ℕ). y >>= after (proof_at s i) ds >>= onward s n i ds) (sym (apart cells_at s (proof_at s i) ds)) ∙ e in
      go (kin_of cells_at s (proof_at s i)) (greatest s (proof_at s i) ds) e' (λ d e. kin_of_lem n (suc i) (ds ++ (d ∷ [])) x e u)
    where
      go : (y : Out (Unit {0})) (m : ℕ) → (y >> ok m >>= after (proof_at s i) ds >>= onward s n i ds) ≡ x
          → ((d : ℕ) → onward s n i ds d ≡ x → kin_from cells_at s n (suc i) ≡ (x >> ok tt)) → (y >> kin_from cells_at s n (suc i)) ≡ (x >> ok tt)
      go (ok k) m e later = let a = past 26 u (after (proof_at s i) ds m) _ (λ r e. each_refused (after_refuses (proof_at s i) ds m) e) e in later a.0 a.1
      go (refused r) m e later = ap (λ (x : Out (List ℕ)). x >> ok tt) e

  pub kin_aside : (x : Out (List ℕ)) → depths cells_at s ≡ x → UpTo 26 x → kin cells_at s ≡ (x >> ok tt)
  unfolding depths
  kin_aside = kin_of_lem (proof_total s) 0 []
