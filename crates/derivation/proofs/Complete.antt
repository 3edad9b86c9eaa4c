-- The last pass accepts where each parent is below its proof, joins rise and no walk fails. Each test of the pass would else name a walk
-- that fails: the depth of a proof is one more than the moves of some walk from it.
use Prim.Native.Nat.{ℕ, zero, suc, ◌+◌, ◌≤◌, ◌<◌, max}
use mathlib.Core.Path.{◌≡◌, refl, sym, ap, ◌∙◌, subst}
use mathlib.Core.Logic.{◌⊎◌, inl, inr, ⊎_elim}
use mathlib.Core.Bool.{Bool, true}
use mathlib.Core.List.{List, [], ◌∷◌, ◌++◌}
use native.Mathlib.Omega.{arith}
use native.Mathlib.Nat.{le_refl}
use lib.ListN.{length, get_or, length-append, get_or-append}
use lib.Seq.{get_or_at}
use lib.Dec.{eqb}
use borrow.Author.Tests.{eqb-true, eqb-false, lt-ltb, le-leb, eq-eqb}
use Rattle.local_format.specs.Out.{Out, ok, check, ◌>>◌}
use Rattle.local_format.proofs.OutLaws.{on_ok}
use Rattle.derivation.specs.Rule.{Rule, Shaped, by_witness, by_parents, polarity_fits}
use Rattle.derivation.specs.Section.{Proof, Section, Checked, Within, proof_at, witness_at, parent_at, proof_total, OwnsParent, OwnsWitness}
use Rattle.derivation.specs.Pass.{agrees, parents_from, witnesses_from, depth_of, depths_from, depths}
use Rattle.derivation.specs.Walk.{Walk, stay, move, AtEnd, Witnessed, Fails, long, strays, unwitnessed, NoWalkFails, ParentsBelow, JoinsRise}
use Rattle.derivation.specs.Demand.{Derivable}
use Rattle.derivation.proofs.Tests.{both_true, second_true, by_test, order}
use Rattle.derivation.proofs.Sound.{Kin, Suits, parents_sound, depth_at}

-- what a check lets through
passed : {B : Type 0} (t : Bool) (n at : ℕ) (y : Out B) → t ≡ true → (check t n at >> y) ≡ y
passed t n at y e = ap (λ (t : Bool). check t n at >> y) e

-- a rule that asks for a witness asks for one, and for no parent
has_witness : (r : Rule) → Shaped r → 0 < r.witnesses → (r.witnesses ≡ 1) × (r.parents ≡ 0)
has_witness r (by_witness w p q) h = (w, p)
has_witness r (by_parents w l u q) h = absurd (omega arith)

-- a rule asks for no more than two parents
two_parents : (r : Rule) → Shaped r → 1 < r.parents → r.parents ≡ 2
two_parents r (by_witness w p q) h = absurd (omega arith)
two_parents r (by_parents w l u q) h = omega arith

right_polarity : (r : Rule) (n : ℕ) → n ≡ r.polarity → polarity_fits r n ≡ true
unfolding polarity_fits
right_polarity r n e = second_true (eqb r.polarity 2) (eqb n r.polarity) (eq-eqb n r.polarity e)

module _ (cells_at : ℕ) (s : Section) where
  module _ (p : Proof) where
    parents_done : (ds : List ℕ) (k c least m : ℕ) → ((d : ℕ) → Within c k d → Kin s p d) → (0 < k → least ≤ parent_at s c)
        → ((d : ℕ) → c ≤ d → suc d < c + k → parent_at s d < parent_at s (suc d)) → (m' : ℕ) × (parents_from cells_at s p ds k c least m ≡ ok m')
    unfolding parents_from agrees
    parents_done ds zero c least m kin low rise = (m, refl)
    parents_done ds (suc k) c least m kin low rise =
        let h : Kin s p c = kin c (record { from = le_refl c; upto = omega arith }) in
        let r = parents_done ds k (suc c) (suc (parent_at s c)) (max m (get_or ds (parent_at s c) 0))
        (λ d o. kin d (record { from = omega arith; upto = omega arith })) (λ z. rise c (le_refl c) (omega arith))
        (λ d l u. rise d (omega arith) (omega arith)) in (
          r.0,
          passed _ _ _ _ (both_true _ _ (lt-ltb _ _ h.below) (le-leb _ _ (low (omega arith))))
              ∙ passed _ _ _ _ (both_true _ _ (eq-eqb _ _ h.proposition) (eq-eqb _ _ h.authority))
              ∙ r.1,
        )

    witnesses_done : (k w : ℕ) → ((v : ℕ) → Within w k v → Suits s p v) → witnesses_from cells_at s p k w ≡ ok tt
    unfolding witnesses_from
    witnesses_done zero w h = refl
    witnesses_done (suc k) w h =
        let f = h w (record { from = le_refl w; upto = omega arith }) in
        passed _ _ _ _ (eq-eqb _ _ f.proposition)
        ∙ passed _ _ _ _ f.polarity
        ∙ witnesses_done k (suc w) (λ v o. h v (record { from = omega arith; upto = omega arith }))

    step_done : (ds : List ℕ) (m : ℕ) → parents_from cells_at s p ds p.parent_count p.first_parent 0 0 ≡ ok m → suc m ≤ 256
        → ((w : ℕ) → Within p.first_witness p.witness_count w → Suits s p w) → depth_of cells_at s p ds ≡ ok (suc m)
    unfolding depth_of
    step_done ds m e h w =
        on_ok _ e
        ∙ passed _ _ _ _ (le-leb _ _ h)
        ∙ ap (λ (o : Out (Unit {0})). o >> ok (suc m)) (witnesses_done p.witness_count p.first_witness w)

  -- the depth d of the proof i is one more than the moves of some walk from it
  record Attained (i d : ℕ) : Type 0 where
    picks : List ℕ
    last : ℕ
    walk : Walk s i picks last
    depth : d ≡ suc (length picks)

  module _ (checked : Checked s) (der : Derivable s) where
    below : (i c : ℕ) → i < proof_total s → OwnsParent s i c → parent_at s c < i
    unfolding ParentsBelow
    below i c l o = omega (arith, checked.proof_number i l, der.below i c l o)

    extend : (i c : ℕ) (cs : List ℕ) (k : ℕ) → i < proof_total s → OwnsParent s i c → Walk s (parent_at s c) cs k → Walk s i (c ∷ cs) k
    extend i c cs k l o w =
        let h : parent_at s c < proof_total s = omega (arith, below i c l o) in
        move l o h (checked.proof_number (parent_at s c) h) w

    not_fails : (i : ℕ) (cs : List ℕ) (k : ℕ) → Walk s i cs k → Fails s i cs → ⊥
    unfolding NoWalkFails
    not_fails = der.no_walk_fails

    kin : (i c : ℕ) → i < proof_total s → OwnsParent s i c → Kin s (proof_at s i) c
    unfolding ParentsBelow
    kin i c l o =
        let w : Walk s i (c ∷ []) (parent_at s c) = extend i c [] (parent_at s c) l o (stay (omega (arith, below i c l o))) in
        record {
          below = der.below i c l o;
          proposition = eqb-true _ _ (by_test _ (λ e. not_fails i (c ∷ []) _ w (strays 1 _ w (λ q. eqb-false _ _ e q.proposition))));
          authority = eqb-true _ _ (by_test _ (λ e. not_fails i (c ∷ []) _ w (strays 1 _ w (λ q. eqb-false _ _ e q.authority))));
        }

    rise : (i : ℕ) → i < proof_total s → (d : ℕ) → (proof_at s i).first_parent ≤ d → suc d < (proof_at s i).first_parent + (proof_at s i).parent_count
        → parent_at s d < parent_at s (suc d)
    unfolding JoinsRise
    rise i l d h u =
        let t = two_parents (proof_at s i).rule (checked.shaped i l) (omega (arith, checked.shape_parents i l)) in
        let q : (proof_at s i).first_parent ≡ d = omega (arith, checked.shape_parents i l) in
        subst (λ (d : ℕ). parent_at s d < parent_at s (suc d)) q (der.rise i l t)

    suits : (i : ℕ) → i < proof_total s → (w : ℕ) → OwnsWitness s i w → Suits s (proof_at s i) w
    unfolding AtEnd
    suits i l w o =
        let t = has_witness (proof_at s i).rule (checked.shaped i l) (omega (arith, checked.shape_witnesses i l)) in
        let q : (proof_at s i).first_witness ≡ w = omega (arith, checked.shape_witnesses i l, t.0) in
        let z : (proof_at s i).parent_count ≡ 0 = checked.shape_parents i l ∙ t.1 in
        let never : (Witnessed s i i → ⊥) → ⊥ = λ d. not_fails i [] i (stay l) (unwitnessed i (stay l) z d) in
        subst (λ (v : ℕ). Suits s (proof_at s i) v) q
        (record {
          proposition = eqb-true _ _ (by_test _ (λ e. never (λ d. eqb-false _ _ e d.proposition)));
          polarity = by_test _ (λ e. never (λ d.
              let p : polarity_fits (proof_at s i).rule (witness_at s (proof_at s i).first_witness).polarity ≡ true = right_polarity _ _ d.polarity in
              let a : ◌≡◌ {A = ℕ} 0 1 = cc in omega arith));
        })

    -- the walk that attains the greatest of the parents' depths, and one move more
    deepest : (ds : List ℕ) (i : ℕ) → i < proof_total s → ((j : ℕ) → j < i → Attained j (depth_at ds j)) → (m : ℕ)
        → (m ≡ 0) ⊎ ((c : ℕ) × OwnsParent s i c × (m ≡ get_or ds (parent_at s c) 0)) → Attained i (suc m)
    deepest ds i l inv m (inl z) = record { picks = []; last = i; walk = stay l; depth = ap suc z }
    deepest ds i l inv m (inr q) =
        let a = inv (parent_at s q.0) (below i q.0 l q.1) in
        record { picks = q.0 ∷ a.picks; last = a.last; walk = extend i q.0 a.picks a.last l q.1 a.walk; depth = ap suc (q.2 ∙ a.depth) }

    one_done : (ds : List ℕ) (i : ℕ) → i < proof_total s → ((j : ℕ) → j < i → Attained j (depth_at ds j)) → (d : ℕ)
        × (depth_of cells_at s (proof_at s i) ds ≡ ok d) × Attained i d
    one_done ds i l inv =
        let p : Proof = proof_at s i in
        let r = parents_done p ds p.parent_count p.first_parent 0 0 (λ c o. kin i c l o) (λ h. omega arith) (rise i l) in
        let m : ℕ = r.0 in
        let t : Attained i (suc m) = deepest ds i l inv m (parents_sound cells_at s p ds _ _ _ _ m r.1).attained in
        let short : suc m ≤ 256 = ⊎_elim (λ g. g) (λ g. absurd (not_fails i t.picks t.last t.walk (long (omega (arith, t.depth)))))
        (order (suc m) 256) in
        (suc m, step_done p ds m r.1 short (suits i l), t)

    all_done : (n i : ℕ) (ds : List ℕ) → i + n ≡ proof_total s → length ds ≡ i → ((j : ℕ) → j < i → Attained j (depth_at ds j)) → (out : List ℕ)
        × (depths_from cells_at s n i ds ≡ ok out)
    unfolding depths_from
    all_done zero i ds t l inv = (ds, refl)
    all_done (suc n) i ds t l inv =
        let r = one_done ds i (omega arith) inv in
        let d : ℕ = r.0 in
        let rest = all_done n (suc i) (ds ++ (d ∷ [])) (omega arith) (omega (arith, length-append ds (d ∷ [])))
        (λ j g. ⊎_elim
        (λ q. subst (λ (x : ℕ). Attained j x) (sym (get_or-append ds (d ∷ []) 0 j (omega arith))) (inv j q))
        (λ q. let q' : i ≡ j = omega arith in
        subst (λ (k : ℕ). Attained k (depth_at (ds ++ (d ∷ [])) k)) q' (subst (λ (x : ℕ). Attained i x) (sym (get_or_at ds d [] 0 i l)) r.2))
        (order (suc j) i)) in
        (rest.0, on_ok _ r.1 ∙ rest.1)

    pub accepts : (ds : List ℕ) × (depths cells_at s ≡ ok ds)
    unfolding depths
    accepts = all_done (proof_total s) 0 [] (omega arith) refl (λ j g. absurd (omega arith))
