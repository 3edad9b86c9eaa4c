-- Numbers made in order meet their own equation, and what is gathered from the parents has a property where one of the parts has it.
use Prim.Native.Nat.{ℕ, zero, suc, ◌+◌, ◌<◌}
use mathlib.Core.Path.{◌≡◌, refl, sym, ap, ◌∙◌, subst}
use mathlib.Core.Logic.{◌⊎◌, inl, inr, ⊎_elim}
use mathlib.Core.List.{List, [], ◌∷◌, ◌++◌}
use native.Mathlib.Omega.{arith}
use lib.ListN.{length, get_or, length-append, get_or-append}
use lib.Seq.{get_or_at}
use Rattle.derivation.specs.Section.{Section, Within, parent_at}
use Rattle.derivation.specs.InOrder.{in_order, gathered}
use Rattle.derivation.proofs.Tests.{order, at_or_after}

-- each of the N numbers is made from the list itself, where f reads of a list only what stands before its place
module _ (f : ℕ → List ℕ → ℕ) (N : ℕ)
    (local : (i : ℕ) (xs ys : List ℕ) → i < N → ((j : ℕ) → j < i → get_or xs j 0 ≡ get_or ys j 0) → f i xs ≡ f i ys) where
  Made : List ℕ → ℕ → Type 0
  Made xs i = get_or xs i 0 ≡ f i xs

  made_from : (n i : ℕ) (xs : List ℕ) → i + n ≡ N → length xs ≡ i → ((j : ℕ) → j < i → Made xs j)
      → (length (in_order f n i xs) ≡ N) × ((j : ℕ) → j < N → Made (in_order f n i xs) j)
  unfolding in_order Made
  made_from zero i xs t l inv = (omega arith, λ j h. inv j (omega arith))
  made_from (suc n) i xs t l inv =
      let ys : List ℕ = xs ++ (f i xs ∷ []) in
      let before : (j : ℕ) → j < i → get_or xs j 0 ≡ get_or ys j 0 = λ j h. sym (get_or-append xs (f i xs ∷ []) 0 j (omega arith)) in
      let here : Made ys i = get_or_at xs (f i xs) [] 0 i l ∙ local i xs ys (omega arith) before in
      made_from n (suc i) ys (omega arith) (omega (arith, length-append xs (f i xs ∷ []))) (λ j g.
      ⊎_elim
      (λ h. sym (before j h) ∙ inv j h ∙ local j xs ys (omega arith) (λ k r. before k (omega arith)))
      (λ h. let e : i ≡ j = omega arith in subst (λ (j : ℕ). Made ys j) e here)
      (order (suc j) i))

  pub made : (length (in_order f N 0 []) ≡ N) × ((i : ℕ) → i < N → get_or (in_order f N 0 []) i 0 ≡ f i (in_order f N 0 []))
  unfolding Made
  made = made_from N 0 [] (omega arith) refl (λ j h. absurd (omega arith))

-- ---- What is gathered

-- it reads the parents' numbers alone
pub gathered_local : (with : ℕ → ℕ → ℕ) (s : Section) (xs ys : List ℕ) (k c m : ℕ)
    → ((d : ℕ) → Within c k d → get_or xs (parent_at s d) 0 ≡ get_or ys (parent_at s d) 0) → gathered with s xs k c m ≡ gathered with s ys k c m
unfolding gathered
gathered_local with s xs ys zero c m h = refl
gathered_local with s xs ys (suc k) c m h =
    let here : get_or xs (parent_at s c) 0 ≡ get_or ys (parent_at s c) 0 = h c (record { from = omega arith; upto = omega arith }) in
    ap (λ (x : ℕ). gathered with s xs k (suc c) (with m x)) here
    ∙ gathered_local with s xs ys k (suc c) _ (λ d o. h d (record { from = omega arith; upto = omega arith }))

module _ (with : ℕ → ℕ → ℕ) (P : ℕ → Type 0) (left : (a b : ℕ) → P a → P (with a b)) (right : (a b : ℕ) → P b → P (with a b))
    (s : Section) (xs : List ℕ) where
  from_start : (k c m : ℕ) → P m → P (gathered with s xs k c m)
  unfolding gathered
  from_start zero c m h = h
  from_start (suc k) c m h = from_start k (suc c) _ (left m _ h)

  pub from_parent : (k c m d : ℕ) → Within c k d → P (get_or xs (parent_at s d) 0) → P (gathered with s xs k c m)
  unfolding gathered
  from_parent zero c m d o h = absurd (omega arith)
  from_parent (suc k) c m d o h =
      at_or_after (λ (d : ℕ). P (get_or xs (parent_at s d) 0) → P (gathered with s xs k (suc c) (with m (get_or xs (parent_at s c) 0)))) c k
      (λ h. from_start k (suc c) _ (right m _ h)) (from_parent k (suc c) _) d o h

module _ (with : ℕ → ℕ → ℕ) (P : ℕ → Type 0) (one : (a b : ℕ) → P (with a b) → P a ⊎ P b) (s : Section) (xs : List ℕ) where
  pub from_some : (k c m : ℕ) → P (gathered with s xs k c m) → P m ⊎ ((d : ℕ) × Within c k d × P (get_or xs (parent_at s d) 0))
  unfolding gathered
  from_some zero c m h = inl h
  from_some (suc k) c m h =
      ⊎_elim
      (λ p. ⊎_elim inl (λ q. inr (c, record { from = omega arith; upto = omega arith }, q)) (one m _ p))
      (λ r. inr (r.0, record { from = omega (arith, r.1.from); upto = omega (arith, r.1.upto) }, r.2))
      (from_some k (suc c) _ h)
