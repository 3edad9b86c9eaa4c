-- The library's orders of numbers and of byte strings are the definitions'.
use Prim.Native.Nat.{ℕ}
use mathlib.Core.Path.{◌≡◌, refl}
use mathlib.Core.Bool.{Bool, true, false, cond}
use native.Mathlib.Omega.{arith}
use lib.Dec.{ltb, eqb}
use borrow.Author.Tests.{ltb-true, ltb-false, eq-eqb, ne_eqb}
use mathlib.Core.List.{List, [], ◌∷◌}
use Rattle.std.specs.Cmp.Lexicographic.{slice_cmp}
use Rattle.std.specs.Ordering.{nat_cmp, ordering_then, is_lt}
use Rattle.std.specs.declared.cmp.Ordering.{Ordering}
use Rattle.std.specs.declared.cmp.Ordering.TheVariants.{Less, Equal, Greater}
use Rattle.evr0_section.specs.Proposition.{less, equal, greater, and_then, compare, compare_bytes, is_less, Key, compare_keys}
use Rattle.evr0_records.specs.Maps.{order_out}

pub number_order : (a b : ℕ) → order_out (nat_cmp a b) ≡ compare a b
unfolding compare
number_order a b = go (ltb a b) refl (ltb b a) refl
  where
    go : (t : Bool) → ltb a b ≡ t → (u : Bool) → ltb b a ≡ u
        → order_out (cond t Less (cond (eqb a b) Equal Greater)) ≡ cond t less (cond u greater equal)
    go true h u k = refl
    go false h true k = rw (ne_eqb a b (λ e. absurd (omega (arith, ltb-true b a k))))
    go false h false k = rw (eq-eqb a b (omega (arith, ltb-false a b h, ltb-false b a k)))

pub then_order : (x y : Ordering) → order_out (ordering_then x y) ≡ and_then (order_out x) (order_out y)
then_order Less y = refl
then_order Equal y = refl
then_order Greater y = refl

pub bytes_order : (a b : List ℕ) → order_out (slice_cmp nat_cmp a b) ≡ compare_bytes a b
unfolding compare_bytes
bytes_order [] [] = refl
bytes_order [] (y ∷ ys) = refl
bytes_order (x ∷ xs) [] = refl
bytes_order (x ∷ xs) (y ∷ ys) = rw (then_order, number_order, bytes_order xs ys)

pub less_order : (x : Ordering) → is_lt x ≡ is_less (order_out x)
less_order Less = refl
less_order Equal = refl
less_order Greater = refl

-- propositions by kind's bytes, then owner, scope, type
pub keys_order : (a b : Key)
    → order_out (ordering_then (slice_cmp nat_cmp a.kind b.kind)
    (ordering_then (nat_cmp a.owner b.owner) (ordering_then (nat_cmp a.scope b.scope) (nat_cmp a.type b.type))))
    ≡ compare_keys a b
unfolding compare_keys
keys_order a b =
    rw (
      then_order (slice_cmp nat_cmp a.kind b.kind)
          (ordering_then (nat_cmp a.owner b.owner) (ordering_then (nat_cmp a.scope b.scope) (nat_cmp a.type b.type))),
      then_order (nat_cmp a.owner b.owner) (ordering_then (nat_cmp a.scope b.scope) (nat_cmp a.type b.type)),
      then_order (nat_cmp a.scope b.scope) (nat_cmp a.type b.type),
      bytes_order a.kind b.kind,
      number_order a.owner b.owner,
      number_order a.scope b.scope,
      number_order a.type b.type,
    )
