-- Touching and hindering are the same both ways, equal locks touch, an owner never hinders itself, and what a test of hindering says; a release
-- drops exactly what an owner holds, and two releases give the same list in either order. By the tests' cases.
use mathlib.Core.Path.{◌≡◌, refl, ap, sym}
use mathlib.Core.Logic.{◌↔◌}
use Prim.Native.Nat.{ℕ}
use mathlib.Core.List.{List, [], append-nil, Memᴰ}
use mathlib.Core.Bool.{Bool, true, false, not, ◌&&◌, ◌||◌}
use lib.Dec.{eqb}
use borrow.Author.Tests.{eqb-true, eqb-false, not-true, eq-eqb, ne_eqb}
use Rattle.lock_rules.specs.Lock.{Lock, begins, touches, hinders}
use Rattle.lock_rules.specs.Register.{release}
use Rattle.lock_rules.proofs.ListLaws.{no, kept, keeps, keep_comm}
use Rattle.lock_rules.proofs.PartLaws.{begins_exactly}

or_comm : (a b : Bool) → (a || b) ≡ (b || a)
or_comm true true = refl
or_comm true false = refl
or_comm false true = refl
or_comm false false = refl

pub eqb_comm : (m n : ℕ) → eqb m n ≡ eqb n m
eqb_comm m n = go (eqb m n) refl
  where
    go : (b : Bool) → eqb m n ≡ b → b ≡ eqb n m
    go true e = sym (eq-eqb n m (sym (eqb-true m n e)))
    go false e = sym (ne_eqb n m (λ p. eqb-false m n e (sym p)))

module _ {R : Type 0} (same : R → R → Bool) where
  -- an owner never hinders itself
  pub own_never : (a b : Lock R) → a.owner ≡ b.owner → hinders same a b ≡ false
  unfolding hinders
  own_never a b e = rw (eq-eqb a.owner b.owner e)

  -- equal ones touch
  pub equal_touch : ((x : R) → same x x ≡ true) → (a b : Lock R) → a.root ≡ b.root → a.parts ≡ b.parts → touches same a b ≡ true
  unfolding touches
  equal_touch itself a b r p = rw (r, p, itself b.root, (begins_exactly b.parts b.parts).1 ([], append-nil b.parts))

  module _ (either : (x y : R) → same x y ≡ same y x) where
    pub touches_either : (a b : Lock R) → touches same a b ≡ touches same b a
    unfolding touches
    touches_either a b = rw (either a.root b.root, or_comm (begins a.parts b.parts) (begins b.parts a.parts))

    pub hinders_either : (a b : Lock R) → hinders same a b ≡ hinders same b a
    unfolding hinders
    hinders_either a b = rw (eqb_comm a.owner b.owner, or_comm a.write b.write, touches_either a b)

  -- they hinder each other exactly where they are of different owners, touch, and either is a write
  pub hinders_is : (a b : Lock R) → hinders same a b ≡ true
      → (a.owner ≡ b.owner → ⊥) × (touches same a b ≡ true) × ((a.write || b.write) ≡ true)
  unfolding hinders
  hinders_is a b e = go (eqb a.owner b.owner) (a.write || b.write) (touches same a b) refl refl refl e
    where
      go : (o w t : Bool) → eqb a.owner b.owner ≡ o → (a.write || b.write) ≡ w → touches same a b ≡ t → (not o && (w && t)) ≡ true
          → (a.owner ≡ b.owner → ⊥) × (touches same a b ≡ true) × ((a.write || b.write) ≡ true)
      go false true true p q r k = (eqb-false _ _ p, r, q)
      go false true false p q r k = no (sym k)
      go false false t p q r k = no (sym k)
      go true w t p q r k = no (sym k)

  pub is_hinders : (a b : Lock R) → (a.owner ≡ b.owner → ⊥) → touches same a b ≡ true → (a.write || b.write) ≡ true → hinders same a b ≡ true
  unfolding hinders
  is_hinders a b o t w = rw (ne_eqb _ _ o, t, w)

  -- where they do not, and one is a write that touches the other, they are of one owner
  pub not_hinders : (a b : Lock R) → hinders same a b ≡ false → a.write ≡ true → touches same a b ≡ true → a.owner ≡ b.owner
  unfolding hinders
  not_hinders a b e w t = go (eqb a.owner b.owner) a.write (touches same a b) refl w t e
    where
      go : (o x y : Bool) → eqb a.owner b.owner ≡ o → x ≡ true → y ≡ true → (not o && ((x || b.write) && y)) ≡ false → a.owner ≡ b.owner
      go true x y p q r k = eqb-true _ _ p
      go false true true p q r k = no k
      go false true false p q r k = no (sym r)
      go false false y p q r k = no (sym q)

-- ---- Releases

module _ {R : Type 0} where
  pub releases_commute : (a b : ℕ) (held : List (Lock R)) → release a (release b held) ≡ release b (release a held)
  unfolding release
  releases_commute a b held = keep_comm _ _ held

  abbrev others : ℕ → Lock R → Bool
  others owner l = not (eqb l.owner owner)

  -- a lock is held afterwards exactly where it was held before and is not the owner's
  pub released : (owner : ℕ) (held : List (Lock R)) (l : Lock R)
      → Memᴰ l (release owner held) ↔ (Memᴰ l held × (l.owner ≡ owner → ⊥))
  unfolding release
  released owner held l = (
    λ m. let k = kept (others owner) held l m in (k.0, eqb-false l.owner owner (not-true (eqb l.owner owner) k.1)),
    λ p. keeps (others owner) held l p.0 (ap not (ne_eqb l.owner owner p.1)),
  )
