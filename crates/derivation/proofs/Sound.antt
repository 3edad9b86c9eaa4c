-- What the last pass has established of each proof where it accepts, by one induction for each of its loops.
use Prim.Native.Nat.{ℕ, zero, suc, ◌+◌, ◌≤◌, ◌<◌, max}
use mathlib.Core.Path.{◌≡◌, refl, sym, ap, ◌∙◌, subst}
use mathlib.Core.Logic.{◌⊎◌, inl, inr, ⊎_elim}
use mathlib.Core.Bool.{true}
use mathlib.Core.List.{List, [], ◌∷◌, ◌++◌}
use native.Mathlib.Omega.{arith}
use native.Mathlib.Nat.{le_refl, le_trans}
use lib.ListN.{length, get_or, length-append, get_or-append}
use lib.Seq.{get_or_at}
use borrow.Author.Tests.{ltb-true, leb-true, eqb-true}
use Rattle.local_format.specs.Out.{ok}
use Rattle.local_format.proofs.OutLaws.{bind_ok, then_ok, checked_ok, ok_same}
use Rattle.derivation.specs.Rule.{polarity_fits}
use Rattle.derivation.specs.Section.{Proof, Section, Within, proof_at, witness_at, parent_at, proof_total, OwnsParent, OwnsWitness}
use Rattle.derivation.specs.Pass.{agrees, parents_from, witnesses_from, depth_of, depths_from, depths}
use Rattle.derivation.proofs.Tests.{both, order, at_or_after}

-- the parent in the cell c suits the proof p
pub record Kin (s : Section) (p : Proof) (c : ℕ) : Type 0 where
  pub below : parent_at s c < p.number
  pub proposition : (proof_at s (parent_at s c)).proposition ≡ p.proposition
  pub authority : (proof_at s (parent_at s c)).authority ≡ p.authority

-- the witness w suits the proof p
pub record Suits (s : Section) (p : Proof) (w : ℕ) : Type 0 where
  pub proposition : (witness_at s w).proposition ≡ p.proposition
  pub polarity : polarity_fits p.rule (witness_at s w).polarity ≡ true

-- the k parents from the cell c on; m' is the greatest of m and their depths
pub record Parents (s : Section) (p : Proof) (ds : List ℕ) (k c least m m' : ℕ) : Type 0 where
  pub kin : (d : ℕ) → Within c k d → Kin s p d
  pub low : 0 < k → least ≤ parent_at s c
  pub rise : (d : ℕ) → c ≤ d → suc d < c + k → parent_at s d < parent_at s (suc d)
  pub bound : (d : ℕ) → Within c k d → get_or ds (parent_at s d) 0 ≤ m'
  pub grows : m ≤ m'
  pub attained : (m' ≡ m) ⊎ ((d : ℕ) × Within c k d × (m' ≡ get_or ds (parent_at s d) 0))

-- the proof p, whose depth is d after the depths ds
pub record Step (s : Section) (p : Proof) (ds : List ℕ) (d : ℕ) : Type 0 where
  pub deepest : ℕ
  pub parents : Parents s p ds p.parent_count p.first_parent 0 0 deepest
  pub depth : d ≡ suc deepest
  pub shallow : suc deepest ≤ 256
  pub witnesses : (w : ℕ) → Within p.first_witness p.witness_count w → Suits s p w

-- the proof i, where D has the depths
pub record Sound (s : Section) (D : ℕ → ℕ) (i : ℕ) : Type 0 where
  pub kin : (c : ℕ) → OwnsParent s i c → Kin s (proof_at s i) c
  pub rise : (c : ℕ) → (proof_at s i).first_parent ≤ c → suc c < (proof_at s i).first_parent + (proof_at s i).parent_count → parent_at s c < parent_at s (suc c)
  pub deeper : (c : ℕ) → OwnsParent s i c → D (parent_at s c) < D i
  pub attained : (D i ≡ 1) ⊎ ((c : ℕ) × OwnsParent s i c × (D i ≡ suc (D (parent_at s c))))
  pub shallow : D i ≤ 256
  pub witnesses : (w : ℕ) → OwnsWitness s i w → Suits s (proof_at s i) w

abbrev pub depth_at : List ℕ → ℕ → ℕ
depth_at ds i = get_or ds i 0

module _ (cells_at : ℕ) (s : Section) where
  -- ---- One proof
  module _ (p : Proof) where
    agreed : (c : ℕ) → agrees s p (parent_at s c) ≡ true → parent_at s c < p.number → Kin s p c
    unfolding agrees
    agreed c e l =
        let a = both _ _ e in
        record { below = l; proposition = eqb-true _ _ a.0; authority = eqb-true _ _ a.1 }

    pub parents_sound : (ds : List ℕ) (k c least m m' : ℕ) → parents_from cells_at s p ds k c least m ≡ ok m' → Parents s p ds k c least m m'
    unfolding parents_from
    parents_sound ds zero c least m m' e =
        let q : m ≡ m' = ok_same e in
        record {
          kin = λ d o. absurd (omega arith);
          low = λ h. absurd (omega arith);
          rise = λ d l u. absurd (omega arith);
          bound = λ d o. absurd (omega arith);
          grows = omega arith;
          attained = inl (sym q);
        }
    parents_sound ds (suc k) c least m m' e =
        let x : ℕ = get_or ds (parent_at s c) 0 in
        let a = checked_ok _ _ _ _ e in
        let b = checked_ok _ _ _ _ a.1 in
        let t = both _ _ a.0 in
        let h : Kin s p c = agreed c b.0 (ltb-true _ _ t.0) in
        let r : Parents s p ds k (suc c) (suc (parent_at s c)) (max m x) m' = parents_sound ds k (suc c) (suc (parent_at s c)) (max m x) m' b.1 in
        record {
          kin = at_or_after (λ d. Kin s p d) c k h r.kin;
          low = λ z. leb-true _ _ t.1;
          rise = λ d l u.
              at_or_after (λ d. suc d < c + suc k → parent_at s d < parent_at s (suc d)) c k (λ v. r.low (omega arith))
              (λ d o v. r.rise d o.from (omega arith)) d
              (record { from = l; upto = omega arith }) u;
          bound = at_or_after (λ d. get_or ds (parent_at s d) 0 ≤ m') c k (omega (arith, r.grows)) r.bound;
          grows = omega (arith, r.grows);
          attained = ⊎_elim
              (λ q. ⊎_elim (λ g. inr (c, record { from = le_refl c; upto = omega arith }, omega arith)) (λ g. inl (omega arith)) (order m x))
              (λ q. inr (q.0, record { from = omega (arith, q.1.from); upto = omega (arith, q.1.upto) }, q.2))
              r.attained;
        }

    witnesses_sound : (k w : ℕ) → witnesses_from cells_at s p k w ≡ ok tt → (v : ℕ) → Within w k v → Suits s p v
    unfolding witnesses_from
    witnesses_sound zero w e v o = absurd (omega arith)
    witnesses_sound (suc k) w e v o =
        let a = checked_ok _ _ _ _ e in
        let b = checked_ok _ _ _ _ a.1 in
        at_or_after (λ v. Suits s p v) w k (record { proposition = eqb-true _ _ a.0; polarity = b.0 }) (witnesses_sound k (suc w) b.1) v o

    step_sound : (ds : List ℕ) (d : ℕ) → depth_of cells_at s p ds ≡ ok d → Step s p ds d
    unfolding depth_of
    step_sound ds d e =
        let a = bind_ok (parents_from cells_at s p ds p.parent_count p.first_parent 0 0) _ e in
        let b = checked_ok _ _ _ _ a.2 in
        let c = then_ok (witnesses_from cells_at s p p.witness_count p.first_witness) _ b.1 in
        record {
          deepest = a.0;
          parents = parents_sound ds _ _ _ _ _ a.1;
          depth = sym (ok_same c.2);
          shallow = le_trans (leb-true _ _ b.0) (omega arith);
          witnesses = witnesses_sound _ _ c.1;
        }

  -- ---- All proofs
  sound_agree : (D E : ℕ → ℕ) (i : ℕ) → (proof_at s i).number ≡ i → ((j : ℕ) → j ≤ i → D j ≡ E j) → Sound s D i → Sound s E i
  sound_agree D E i n agree h =
      let here : D i ≡ E i = agree i (le_refl i) in
      let parent : (c : ℕ) → OwnsParent s i c → D (parent_at s c) ≡ E (parent_at s c) = λ c o. agree (parent_at s c) (omega (arith, (h.kin c o).below)) in
      record {
        kin = h.kin;
        rise = h.rise;
        deeper = λ c o. omega (arith, parent c o, h.deeper c o);
        attained = ⊎_elim (λ q. inl (sym here ∙ q)) (λ q. inr (q.0, q.1, sym here ∙ q.2 ∙ ap suc (parent q.0 q.1))) h.attained;
        shallow = omega (arith, h.shallow);
        witnesses = h.witnesses;
      }

  module _ (num : (i : ℕ) → i < proof_total s → (proof_at s i).number ≡ i) where
    snoc_before : (ds : List ℕ) (d i j : ℕ) → length ds ≡ i → j < i → depth_at ds j ≡ depth_at (ds ++ (d ∷ [])) j
    snoc_before ds d i j l h = sym (get_or-append ds (d ∷ []) 0 j (omega arith))

    snoc_at : (ds : List ℕ) (d i : ℕ) → length ds ≡ i → depth_at (ds ++ (d ∷ [])) i ≡ d
    snoc_at ds d i l = get_or_at ds d [] 0 i l

    step_new : (ds : List ℕ) (d i : ℕ) → i < proof_total s → length ds ≡ i → Step s (proof_at s i) ds d → Sound s (depth_at (ds ++ (d ∷ []))) i
    step_new ds d i lt l h =
        let here : depth_at (ds ++ (d ∷ [])) i ≡ d = snoc_at ds d i l in
        let parent : (c : ℕ) → OwnsParent s i c → depth_at ds (parent_at s c) ≡ depth_at (ds ++ (d ∷ [])) (parent_at s c) =
        λ c o. snoc_before ds d i (parent_at s c) l (omega (arith, num i lt, (h.parents.kin c o).below)) in
        record {
          kin = h.parents.kin;
          rise = h.parents.rise;
          deeper = λ c o. omega (arith, h.depth, h.parents.bound c o, parent c o);
          attained = ⊎_elim
              (λ q. inl (here ∙ h.depth ∙ ap suc q))
              (λ q. inr (q.0, q.1, here ∙ h.depth ∙ ap suc (q.2 ∙ parent q.0 q.1)))
              h.parents.attained;
          shallow = omega (arith, h.depth);
          witnesses = h.witnesses;
        }

    all_sound : (n i : ℕ) (ds out : List ℕ) → depths_from cells_at s n i ds ≡ ok out → i + n ≡ proof_total s → length ds ≡ i
        → ((j : ℕ) → j < i → Sound s (depth_at ds) j) → (length out ≡ proof_total s) × ((j : ℕ) → j < proof_total s → Sound s (depth_at out) j)
    unfolding depths_from
    all_sound zero i ds out e t l inv =
        let q : ds ≡ out = ok_same e in
        subst (λ (o : List ℕ). (length o ≡ proof_total s) × ((j : ℕ) → j < proof_total s → Sound s (depth_at o) j)) q (omega arith, λ j h. inv j (omega arith))
    all_sound (suc n) i ds out e t l inv =
        let a = bind_ok (depth_of cells_at s (proof_at s i) ds) _ e in
        let d : ℕ = a.0 in
        all_sound n (suc i) (ds ++ (d ∷ [])) out a.2 (omega arith) (omega (arith, length-append ds (d ∷ [])))
        (λ j g. ⊎_elim
        (λ q. sound_agree (depth_at ds) (depth_at (ds ++ (d ∷ []))) j (num j (omega arith)) (λ k r. snoc_before ds d i k l (omega arith)) (inv j q))
        (λ q. let q' : i ≡ j = omega arith in
        subst (λ k. Sound s (depth_at (ds ++ (d ∷ []))) k) q' (step_new ds d i (omega arith) l (step_sound (proof_at s i) ds d a.1)))
        (order (suc j) i))

    pub pass_sound : (ds : List ℕ) → depths cells_at s ≡ ok ds → (length ds ≡ proof_total s) × ((j : ℕ) → j < proof_total s → Sound s (depth_at ds) j)
    unfolding depths
    pass_sound ds e = all_sound (proof_total s) 0 [] ds e (omega arith) refl (λ j g. absurd (omega arith))
