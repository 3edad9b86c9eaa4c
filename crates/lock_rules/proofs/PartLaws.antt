-- What comparing parts compares: two components with the same part are the same, and a list is the beginning of another exactly where that goes on from it.
use mathlib.Core.Path.{◌≡◌, refl, ap, sym, ◌∙◌}
use mathlib.Core.Logic.{◌↔◌}
use Prim.Native.Nat.{ℕ}
use mathlib.Core.List.{List, [], ◌∷◌, ◌++◌}
use mathlib.Core.Bool.{Bool, true, false, ◌&&◌}
use lib.Dec.{eqb}
use borrow.Author.Tests.{eqb-true, eq-eqb}
use Rattle.semcode_records.specs.Component.{Component, tuple_index, field_symbol, variant, sequence_index}
use Rattle.lock_rules.specs.Lock.{Part, part_of, same_part, begins}
use Rattle.lock_rules.proofs.ListLaws.{no}

differ : {A : Type 0} (m n : ℕ) → eqb m n ≡ false → m ≡ n → A
differ m n e p = no (sym (eq-eqb m n p) ∙ e)

kinds : {a b : Part} → a ≡ b → a.kind ≡ b.kind
kinds e = ap (λ (p : Part). p.kind) e

-- two components with the same part are the same
pub part_same : (a b : Component) → part_of a ≡ part_of b → a ≡ b
part_same (tuple_index i) (tuple_index j) e = ap tuple_index (ap (λ (p : Part). p.first) e)
part_same (field_symbol i) (field_symbol j) e = ap field_symbol (ap (λ (p : Part). p.first) e)
part_same (sequence_index i) (sequence_index j) e = ap sequence_index (ap (λ (p : Part). p.first) e)
part_same (variant v i) (variant w j) e =
    ap (λ (n : ℕ). variant n i) (ap (λ (p : Part). p.first) e) ∙ ap (variant w) (ap (λ (p : Part). p.second) e)
part_same (tuple_index i) (field_symbol j) e = differ 0 1 refl (kinds e)
part_same (tuple_index i) (variant w j) e = differ 0 2 refl (kinds e)
part_same (tuple_index i) (sequence_index j) e = differ 0 3 refl (kinds e)
part_same (field_symbol i) (tuple_index j) e = differ 1 0 refl (kinds e)
part_same (field_symbol i) (variant w j) e = differ 1 2 refl (kinds e)
part_same (field_symbol i) (sequence_index j) e = differ 1 3 refl (kinds e)
part_same (variant v i) (tuple_index j) e = differ 2 0 refl (kinds e)
part_same (variant v i) (field_symbol j) e = differ 2 1 refl (kinds e)
part_same (variant v i) (sequence_index j) e = differ 2 3 refl (kinds e)
part_same (sequence_index i) (tuple_index j) e = differ 3 0 refl (kinds e)
part_same (sequence_index i) (field_symbol j) e = differ 3 1 refl (kinds e)
part_same (sequence_index i) (variant w j) e = differ 3 2 refl (kinds e)

all : {a b : Part} → a.kind ≡ b.kind → a.first ≡ b.first → a.second ≡ b.second → a ≡ b
all {a} {b} p q r =
    ap (λ (n : ℕ). record { kind = n; first = a.first; second = a.second }) p
    ∙ ap (λ (n : ℕ). record { kind = b.kind; first = n; second = a.second }) q
    ∙ ap (λ (n : ℕ). record { kind = b.kind; first = b.first; second = n }) r

same_is : (a b : Part) → same_part a b ≡ true → a ≡ b
unfolding same_part
same_is a b e = go (eqb a.kind b.kind) (eqb a.first b.first) (eqb a.second b.second) refl refl refl e
  where
    go : (x y z : Bool) → eqb a.kind b.kind ≡ x → eqb a.first b.first ≡ y → eqb a.second b.second ≡ z
        → (x && (y && z)) ≡ true → a ≡ b
    go true true true p q r k = all (eqb-true a.kind b.kind p) (eqb-true a.first b.first q) (eqb-true a.second b.second r)
    go true true false p q r k = no (sym k)
    go true false z p q r k = no (sym k)
    go false y z p q r k = no (sym k)

same_self : (a : Part) → same_part a a ≡ true
unfolding same_part
same_self a = rw (eq-eqb a.kind a.kind refl, eq-eqb a.first a.first refl, eq-eqb a.second a.second refl)

begins_is : (xs ys : List Part) → begins xs ys ≡ true → (zs : List Part) × (xs ++ zs ≡ ys)
unfolding begins
begins_is [] ys e = (ys, refl)
begins_is (x ∷ xs) [] e = no (sym e)
begins_is (x ∷ xs) (y ∷ ys) e = go (same_part x y) refl e (λ k. begins_is xs ys k)
  where
    go : (b : Bool) → same_part x y ≡ b → (b && begins xs ys) ≡ true → (begins xs ys ≡ true → (zs : List Part) × (xs ++ zs ≡ ys))
        → (zs : List Part) × ((x ∷ xs) ++ zs ≡ y ∷ ys)
    go true h k rest = let r = rest k in (r.0, ap (λ (p : Part). p ∷ (xs ++ r.0)) (same_is x y h) ∙ ap (λ (ps : List Part). y ∷ ps) r.1)
    go false h k rest = no (sym k)

begins_self : (xs zs : List Part) → begins xs (xs ++ zs) ≡ true
unfolding begins
begins_self [] zs = refl
begins_self (x ∷ xs) zs = rw (same_self x, begins_self xs zs)

-- one list is the beginning of the other
pub begins_exactly : (xs ys : List Part) → (begins xs ys ≡ true) ↔ ((zs : List Part) × (xs ++ zs ≡ ys))
begins_exactly xs ys = (begins_is xs ys, λ p. rw (← p.1) (begins_self xs p.0))
