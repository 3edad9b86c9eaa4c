-- The order of propositions is a strict total order: `Chain`, three facts of two orders, passes through `and_then`.
use Prim.Native.Nat.{ℕ, suc, ◌≤◌, ◌<◌}
use mathlib.Core.Logic.{◌⊎◌, inl, inr}
use mathlib.Core.Path.{◌≡◌, refl, sym, ap₂, ◌∙◌}
use mathlib.Core.Bool.{Bool, true, false, cond}
use mathlib.Core.List.{List, [], ◌∷◌}
use native.Mathlib.Omega.{arith}
use lib.Dec.{ltb}
use borrow.Author.Tests.{ltb-true, ltb-false, lt-ltb, le-ltb}
use Rattle.derivation.proofs.Tests.{order}
use Rattle.evr0_section.specs.Proposition.{Order, less, equal, greater, and_then, compare, compare_bytes, Key, compare_keys}
use Rattle.evr0_compare.specs.Compare.{turned, StrictTotal}

-- ---- Orders one after the other: what passes through `and_then`

-- of a and b, b and c, a and c
record Chain (ab bc ac : Order) : Type 0 where
  trans : ab ≡ less → bc ≡ less → ac ≡ less
  left : ab ≡ equal → ac ≡ bc
  right : bc ≡ equal → ac ≡ ab

module _ (q o' p' q' : Order) where
  chain_then : (o p : Order) → Chain o p q → Chain o' p' q' → Chain (and_then o o') (and_then p p') (and_then q q')
  chain_then less less c d = rw (c.trans refl refl) (record { trans = λ a b. refl; left = λ a. cc; right = λ a. refl })
  chain_then less equal c d = rw (c.right refl) (record { trans = λ a b. refl; left = λ a. cc; right = λ a. refl })
  chain_then less greater c d = record { trans = λ a b. cc; left = λ a. cc; right = λ a. cc }
  chain_then equal less c d = rw (c.left refl) (record { trans = λ a b. refl; left = λ a. refl; right = λ a. cc })
  chain_then equal equal c d = rw (c.left refl) d
  chain_then equal greater c d = rw (c.left refl) (record { trans = λ a b. cc; left = λ a. refl; right = λ a. cc })
  chain_then greater less c d = record { trans = λ a b. cc; left = λ a. cc; right = λ a. cc }
  chain_then greater equal c d = rw (c.right refl) (record { trans = λ a b. cc; left = λ a. cc; right = λ a. refl })
  chain_then greater greater c d = record { trans = λ a b. cc; left = λ a. cc; right = λ a. cc }

turned_then : (o p : Order) → turned (and_then o p) ≡ and_then (turned o) (turned p)
turned_then less p = refl
turned_then equal p = refl
turned_then greater p = refl

equal_then : (o p : Order) → and_then o p ≡ equal → (o ≡ equal) × (p ≡ equal)
equal_then less p e = (e, cc)
equal_then equal p e = (refl, e)
equal_then greater p e = (e, cc)

-- ---- Numbers
module _ (a b : ℕ) where
  is_less_lem : a < b → compare a b ≡ less
  unfolding compare
  is_less_lem h = simp (lt-ltb a b h)

  is_greater : b < a → compare a b ≡ greater
  unfolding compare
  is_greater h = let k : b ≤ a = omega arith in simp (le-ltb a b k, lt-ltb b a h)

  less_is : compare a b ≡ less → a < b
  unfolding compare
  less_is e = go (ltb a b) refl (ltb b a) e
    where
      go : (s : Bool) → ltb a b ≡ s → (t : Bool) → cond s less (cond t greater equal) ≡ less → a < b
      go true p t e = ltb-true a b p
      go false p true e = absurd (let z : ◌≡◌ {A = ℕ} 0 1 = cc in omega arith)
      go false p false e = absurd (let z : ◌≡◌ {A = ℕ} 0 1 = cc in omega arith)

  equal_is : compare a b ≡ equal → a ≡ b
  unfolding compare
  equal_is e = go (ltb a b) refl (ltb b a) refl e
    where
      go : (s : Bool) → ltb a b ≡ s → (t : Bool) → ltb b a ≡ t → cond s less (cond t greater equal) ≡ equal → a ≡ b
      go true p t q e = cc
      go false p true q e = cc
      go false p false q e = omega (arith, ltb-false a b p, ltb-false b a q)

self : (a : ℕ) → compare a a ≡ equal
unfolding compare
self a = let k : a ≤ a = omega arith in simp (le-ltb a a k)

back : (a b : ℕ) → compare b a ≡ turned (compare a b)
back a b = go (order (suc a) b) (order (suc b) a)
  where
    go : (a < b) ⊎ (b < suc a) → (b < a) ⊎ (a < suc b) → compare b a ≡ turned (compare a b)
    go (inl h) k = rw (is_less_lem a b h, is_greater b a h)
    go (inr h) (inl k) = rw (is_greater a b k, is_less_lem b a k)
    go (inr h) (inr k) = let e : a ≡ b = omega arith in rw (e, self b)

chain : (a b c : ℕ) → Chain (compare a b) (compare b c) (compare a c)
chain a b c =
    record {
      trans = λ p q. is_less_lem a c (omega (arith, less_is a b p, less_is b c q));
      left = λ p. rw (equal_is a b p);
      right = λ p. rw (equal_is b c p);
    }

-- ---- Bytes
self_bytes : (a : List ℕ) → compare_bytes a a ≡ equal
unfolding compare_bytes
self_bytes [] = refl
self_bytes (x ∷ xs) = rw (self x) (self_bytes xs)

same_bytes : (a b : List ℕ) → compare_bytes a b ≡ equal → a ≡ b
unfolding compare_bytes
same_bytes [] [] e = refl
same_bytes [] (y ∷ ys) e = cc
same_bytes (x ∷ xs) [] e = cc
same_bytes (x ∷ xs) (y ∷ ys) e =
    let (p, q) = equal_then (compare x y) (compare_bytes xs ys) e in
    ap₂ (λ (z : ℕ) (zs : List ℕ). z ∷ zs) (equal_is x y p) (same_bytes xs ys q)

back_bytes : (a b : List ℕ) → compare_bytes b a ≡ turned (compare_bytes a b)
unfolding compare_bytes
back_bytes [] [] = refl
back_bytes [] (y ∷ ys) = refl
back_bytes (x ∷ xs) [] = refl
back_bytes (x ∷ xs) (y ∷ ys) = ap₂ and_then (back x y) (back_bytes xs ys) ∙ sym (turned_then (compare x y) (compare_bytes xs ys))

chain_bytes : (a b c : List ℕ) → Chain (compare_bytes a b) (compare_bytes b c) (compare_bytes a c)
unfolding compare_bytes
chain_bytes [] [] c = record { trans = λ p q. cc; left = λ p. refl; right = λ p. p }
chain_bytes [] (y ∷ ys) [] = record { trans = λ p q. cc; left = λ p. cc; right = λ p. cc }
chain_bytes [] (y ∷ ys) (z ∷ zs) = record { trans = λ p q. refl; left = λ p. cc; right = λ p. refl }
chain_bytes (x ∷ xs) [] [] = record { trans = λ p q. cc; left = λ p. cc; right = λ p. refl }
chain_bytes (x ∷ xs) [] (z ∷ zs) = record { trans = λ p q. cc; left = λ p. cc; right = λ p. cc }
chain_bytes (x ∷ xs) (y ∷ ys) [] = record { trans = λ p q. cc; left = λ p. refl; right = λ p. cc }
chain_bytes (x ∷ xs) (y ∷ ys) (z ∷ zs) =
    chain_then (compare x z) _ _ (compare_bytes xs zs) (compare x y) (compare y z) (chain x y z) (chain_bytes xs ys zs)

-- ---- Keys
same_key : {a b : Key} → a.kind ≡ b.kind → a.owner ≡ b.owner → a.scope ≡ b.scope → a.type ≡ b.type → a ≡ b
same_key {a} {b} k o s t =
    let f : List ℕ → ℕ → ℕ → ℕ → Key = λ kind owner scope type. record { kind = kind; owner = owner; scope = scope; type = type } in
    let g : f a.kind a.owner a.scope a.type ≡ f b.kind b.owner b.scope b.type = rw (k, o, s, t) in
    g

pub keys_ordered : StrictTotal compare_keys
unfolding compare_keys
keys_ordered =
    record {
      self = λ a. rw (self_bytes a.kind, self a.owner, self a.scope, self a.type);
      same = λ a b e.
          let (k, e1) = equal_then (compare_bytes a.kind b.kind) _ e in
          let (o, e2) = equal_then (compare a.owner b.owner) _ e1 in
          let (s, t) = equal_then (compare a.scope b.scope) (compare a.type b.type) e2 in
          same_key (same_bytes _ _ k) (equal_is _ _ o) (equal_is _ _ s) (equal_is _ _ t);
      back = λ a b.
          rw (back_bytes a.kind b.kind, back a.owner b.owner, back a.scope b.scope, back a.type b.type)
          (sym (simp turned_then));
      trans = λ a b c p q. (all a b c).trans p q;
    }
  where
    all : (a b c : Key) → Chain (compare_keys a b) (compare_keys b c) (compare_keys a c)
    all a b c =
        chain_then _ _ _ _ _ _ (chain_bytes a.kind b.kind c.kind)
        (chain_then _ _ _ _ _ _ (chain a.owner b.owner c.owner)
        (chain_then _ _ _ _ _ _ (chain a.scope b.scope c.scope) (chain a.type b.type c.type)))
