-- Laws of tests over lists: of which elements a test holds, and which are kept. By induction on the list.
use mathlib.Core.Path.{◌≡◌, refl, ap, sym, ◌∙◌}
use mathlib.Core.Logic.{◌⊎◌, inl, inr}
use Prim.Native.Nat.{ℕ, suc, ◌≤◌}
use native.Mathlib.Omega.{arith}
use mathlib.Core.List.{List, [], ◌∷◌, ◌++◌, map}
use mathlib.Core.List.Memᴰ
use mathlib.Core.List.{Memᴰ}
use mathlib.Core.Bool.{Bool, true, false, cond, ◌||◌}
use lib.ListN.{length}
use Rattle.lock_rules.specs.Register.{any, keep}

pub no : {A : Type 0} → true ≡ false → A
no e = absurd (let z : ◌≡◌ {A = ℕ} 0 1 = cc in omega arith)

-- ---- Some

module _ {A : Type 0} (f : A → Bool) where
  pub any_false : (xs : List A) → any f xs ≡ false → (x : A) → Memᴰ x xs → f x ≡ false
  unfolding any
  any_false [] e x m = absurd (Memᴰ.not-nil m)
  any_false (y ∷ ys) e x m = go (Memᴰ.cases_cons m) (f y) refl e (λ k p. any_false ys k x p)
    where
      go : (x ≡ y) ⊎ Memᴰ x ys → (b : Bool) → f y ≡ b → (b || any f ys) ≡ false
          → (any f ys ≡ false → Memᴰ x ys → f x ≡ false) → f x ≡ false
      go (inl p) false h k rest = ap f p ∙ h
      go (inr p) false h k rest = rest k p
      go p true h k rest = no k

  pub any_true : (xs : List A) → any f xs ≡ true → (x : A) × Memᴰ x xs × (f x ≡ true)
  unfolding any
  any_true [] e = no (sym e)
  any_true (y ∷ ys) e = go (f y) refl e (λ k. any_true ys k)
    where
      go : (b : Bool) → f y ≡ b → (b || any f ys) ≡ true → (any f ys ≡ true → (x : A) × Memᴰ x ys × (f x ≡ true))
          → (x : A) × Memᴰ x (y ∷ ys) × (f x ≡ true)
      go true h k rest = (y, Memᴰ.head refl, h)
      go false h k rest = let r = rest k in (r.0, Memᴰ.tail r.1, r.2)

  pub any_has : (xs : List A) (x : A) → Memᴰ x xs → f x ≡ true → any f xs ≡ true
  any_has xs x m e = go (any f xs) refl
    where
      go : (b : Bool) → any f xs ≡ b → b ≡ true
      go true h = refl
      go false h = no (sym e ∙ any_false xs h x m)

  pub any_append : (xs ys : List A) → any f (xs ++ ys) ≡ (any f xs || any f ys)
  unfolding any
  any_append [] ys = refl
  any_append (x ∷ xs) ys = rw (any_append xs ys) (go (f x))
    where
      go : (b : Bool) → (b || (any f xs || any f ys)) ≡ ((b || any f xs) || any f ys)
      go true = refl
      go false = refl

pub any_map : {A B : Type 0} (f : A → B) (g : B → Bool) (xs : List A) → any g (map f xs) ≡ any (λ x. g (f x)) xs
unfolding any
any_map f g [] = refl
any_map f g (x ∷ xs) = rw (any_map f g xs)

pub any_same : {A : Type 0} (f g : A → Bool) (xs : List A) → ((x : A) → f x ≡ g x) → any f xs ≡ any g xs
unfolding any
any_same f g [] h = refl
any_same f g (x ∷ xs) h = rw (h x, any_same f g xs h)

-- ---- Those that are kept

module _ {A : Type 0} (f : A → Bool) where
  pub kept : (xs : List A) (x : A) → Memᴰ x (keep f xs) → Memᴰ x xs × (f x ≡ true)
  unfolding keep
  kept [] x m = absurd (Memᴰ.not-nil m)
  kept (y ∷ ys) x m = go (f y) refl m (λ n. kept ys x n)
    where
      at_head : f y ≡ true → (x ≡ y) ⊎ Memᴰ x (keep f ys) → (Memᴰ x (keep f ys) → Memᴰ x ys × (f x ≡ true))
          → Memᴰ x (y ∷ ys) × (f x ≡ true)
      at_head h (inl p) rest = (Memᴰ.head p, ap f p ∙ h)
      at_head h (inr p) rest = let r = rest p in (Memᴰ.tail r.0, r.1)

      go : (b : Bool) → f y ≡ b → Memᴰ x (cond b (y ∷ keep f ys) (keep f ys))
          → (Memᴰ x (keep f ys) → Memᴰ x ys × (f x ≡ true)) → Memᴰ x (y ∷ ys) × (f x ≡ true)
      go true h n rest = at_head h (Memᴰ.cases_cons n) rest
      go false h n rest = let r = rest n in (Memᴰ.tail r.0, r.1)

  pub keeps : (xs : List A) (x : A) → Memᴰ x xs → f x ≡ true → Memᴰ x (keep f xs)
  unfolding keep
  keeps [] x m e = absurd (Memᴰ.not-nil m)
  keeps (y ∷ ys) x m e = go (Memᴰ.cases_cons m) (f y) refl (λ n. keeps ys x n e)
    where
      go : (x ≡ y) ⊎ Memᴰ x ys → (b : Bool) → f y ≡ b → (Memᴰ x ys → Memᴰ x (keep f ys))
          → Memᴰ x (cond b (y ∷ keep f ys) (keep f ys))
      go (inl p) true h rest = Memᴰ.head p
      go (inr p) true h rest = Memᴰ.tail (rest p)
      go (inl p) false h rest = no (sym (sym h ∙ (ap f (sym p) ∙ e)))
      go (inr p) false h rest = rest p

  pub keep_most : (xs : List A) → length (keep f xs) ≤ length xs
  unfolding keep
  keep_most [] = omega arith
  keep_most (x ∷ xs) = go (f x) (keep_most xs)
    where
      go : (b : Bool) → length (keep f xs) ≤ length xs → length (cond b (x ∷ keep f xs) (keep f xs)) ≤ suc (length xs)
      go true h = omega arith
      go false h = omega arith

pub keep_comm : {A : Type 0} (f g : A → Bool) (xs : List A) → keep f (keep g xs) ≡ keep g (keep f xs)
unfolding keep
keep_comm f g [] = refl
keep_comm f g (x ∷ xs) = go (f x) (g x) refl refl (keep_comm f g xs)
  where
    go : (a b : Bool) → f x ≡ a → g x ≡ b → keep f (keep g xs) ≡ keep g (keep f xs)
        → keep f (cond b (x ∷ keep g xs) (keep g xs)) ≡ keep g (cond a (x ∷ keep f xs) (keep f xs))
    go true true p q r = rw (p, q, r)
    go true false p q r = rw (q, r)
    go false true p q r = rw (p, r)
    go false false p q r = r

-- ---- Mapped

module _ {A B : Type 0} (f : A → B) where
  pub map_from : (xs : List A) (y : B) → Memᴰ y (map f xs) → (x : A) × Memᴰ x xs × (y ≡ f x)
  map_from [] y m = absurd (Memᴰ.not-nil m)
  map_from (x ∷ xs) y m = go (Memᴰ.cases_cons m) (λ n. map_from xs y n)
    where
      go : (y ≡ f x) ⊎ Memᴰ y (map f xs) → (Memᴰ y (map f xs) → (z : A) × Memᴰ z xs × (y ≡ f z))
          → (z : A) × Memᴰ z (x ∷ xs) × (y ≡ f z)
      go (inl p) rest = (x, Memᴰ.head refl, p)
      go (inr p) rest = let r = rest p in (r.0, Memᴰ.tail r.1, r.2)

  pub map_append : (xs ys : List A) → map f (xs ++ ys) ≡ map f xs ++ map f ys
  map_append [] ys = refl
  map_append (x ∷ xs) ys = ap (λ (zs : List B). f x ∷ zs) (map_append xs ys)

  pub map_has : (xs : List A) (x : A) → Memᴰ x xs → Memᴰ (f x) (map f xs)
  map_has [] x m = absurd (Memᴰ.not-nil m)
  map_has (y ∷ ys) x m = go (Memᴰ.cases_cons m) (λ n. map_has ys x n)
    where
      go : (x ≡ y) ⊎ Memᴰ x ys → (Memᴰ x ys → Memᴰ (f x) (map f ys)) → Memᴰ (f x) (map f (y ∷ ys))
      go (inl p) rest = Memᴰ.head (ap f p)
      go (inr p) rest = Memᴰ.tail (rest p)

pub map_map : {A B C : Type 0} (f : B → C) (g : A → B) (xs : List A) → map f (map g xs) ≡ map (λ x. f (g x)) xs
map_map f g [] = refl
map_map f g (x ∷ xs) = rw (map_map f g xs)
