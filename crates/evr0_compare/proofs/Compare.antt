-- The comparison of two sections: what its list is, its totals, the other way round, and a section against itself.
-- By induction on both lists, by the order of their first keys.
use Prim.Native.Nat.{ℕ}
use mathlib.Core.Path.{◌≡◌, refl, sym, ap, ◌∙◌}
use mathlib.Core.Bool.{Bool, true, false}
use mathlib.Core.List.Memᴰ
use mathlib.Core.List.{List, [], ◌∷◌, map, Memᴰ}
use native.Mathlib.Omega.{arith}
use lib.Dec.{eqb}
use Rattle.evr0_section.specs.Proposition.{Key, Order, less, equal, greater, compare_keys}
use Rattle.evr0_compare.specs.Compare
use Rattle.evr0_compare.specs.Compare.{Standing, Verdict, agreed, contradicted, first_only, second_only, code, of_both, exchanged, exchanged_in}
use Rattle.evr0_compare.specs.Compare.{Listed, only, matched, by_order, against, compared, total, turned}
use Rattle.evr0_compare.specs.Compare.{Below, Rising, standing_key, Judged, in_both, in_first, in_second, Found, ListedAll, Totals}
use Rattle.evr0_compare.proofs.KeyOrder.{keys_ordered}

-- ---- Totals
module _ (x : Standing) (rest : List Standing → List Listed) (xs : List Standing) (law : (ys : List Standing) → Totals xs ys (rest ys)) where
  totals_against : (ys : List Standing) → Totals (x ∷ xs) ys (against x rest ys)
  unfolding against total
  totals_against [] = let r = law [] in record { first = omega arith; second = omega arith; all = omega arith }
  totals_against (y ∷ ys) = go (compare_keys x.key y.key) x.authorised y.authorised (law (y ∷ ys)) (law ys) (totals_against ys)
    where
      go : (o : Order) (a b : Bool) → Totals xs (y ∷ ys) (rest (y ∷ ys)) → Totals xs ys (rest ys) → Totals (x ∷ xs) ys (against x rest ys)
          → Totals (x ∷ xs) (y ∷ ys)
          (by_order o (only first_only x ∷ rest (y ∷ ys)) (record { key = x.key; verdict = of_both a b } ∷ rest ys) (only second_only y ∷ against x rest ys))
      go less a b p q r = record { first = omega arith; second = omega arith; all = omega arith }
      go equal true true p q r = record { first = omega arith; second = omega arith; all = omega arith }
      go equal true false p q r = record { first = omega arith; second = omega arith; all = omega arith }
      go equal false true p q r = record { first = omega arith; second = omega arith; all = omega arith }
      go equal false false p q r = record { first = omega arith; second = omega arith; all = omega arith }
      go greater a b p q r = record { first = omega arith; second = omega arith; all = omega arith }

totals_none : (ys : List Standing) → Totals [] ys (map (only second_only) ys)
unfolding total
totals_none [] = record { first = refl; second = refl; all = refl }
totals_none (y ∷ ys) = let r = totals_none ys in record { first = omega arith; second = omega arith; all = omega arith }

pub totals : (xs ys : List Standing) → Totals xs ys (compared xs ys)
unfolding compared
totals [] ys = totals_none ys
totals (x ∷ xs) ys = totals_against x (compared xs) xs (totals xs) ys

-- ---- The list
abbrev BelowAll : Key → List Standing → Type 0
BelowAll k xs = (x : Standing) → Memᴰ x xs → Below k x.key

pub never_itself : {a b : Key} → Below a b → a ≡ b → ⊥
never_itself {a} {b} l e = let s : compare_keys a b ≡ equal = rw e (keys_ordered.self b) in let z : ◌≡◌ {A = ℕ} 0 1 = cc in omega arith

-- a key below those of both sections is below that of each entry
below_listed : (k : Key) {xs ys : List Standing} {l : Listed} → Judged xs ys l → BelowAll k xs → BelowAll k ys → Below k l.key
below_listed k (in_both x y m n e f v) p q = rw e at (p x m)
below_listed k (in_first x m e f v) p q = rw e at (p x m)
below_listed k (in_second y m e f v) p q = rw e at (q y m)

-- one more proposition, below the entry, changes nothing
one_more_first : {x : Standing} {xs ys : List Standing} {l : Listed} → Below x.key l.key → Judged xs ys l → Judged (x ∷ xs) ys l
one_more_first b (in_both x y m n e f v) = in_both x y (Memᴰ.tail m) n e f v
one_more_first b (in_first x m e f v) = in_first x (Memᴰ.tail m) e f v
one_more_first {x = z} {xs = xs} {l = l} b (in_second y m e f v) = in_second y m e other v
  where
    other : (x : Standing) → Memᴰ x (z ∷ xs) → x.key ≡ l.key → ⊥
    other x (Memᴰ.head p) q = never_itself b (ap standing_key (sym p) ∙ q)
    other x (Memᴰ.tail n) q = f x n q

one_more_second : {y : Standing} {xs ys : List Standing} {l : Listed} → Below y.key l.key → Judged xs ys l → Judged xs (y ∷ ys) l
one_more_second b (in_both x y m n e f v) = in_both x y m (Memᴰ.tail n) e f v
one_more_second b (in_second y m e f v) = in_second y (Memᴰ.tail m) e f v
one_more_second {y = z} {ys = ys} {l = l} b (in_first x m e f v) = in_first x m e other v
  where
    other : (y : Standing) → Memᴰ y (z ∷ ys) → y.key ≡ l.key → ⊥
    other y (Memᴰ.head p) q = never_itself b (ap standing_key (sym p) ∙ q)
    other y (Memᴰ.tail n) q = f y n q

-- one more entry, below all others: in the first, in the second, in both
later : {ls : List Listed} {l : Listed} {k : Key} → Found k ls → Found k (l ∷ ls)
later (l, m, e) = (l, Memᴰ.tail m, e)

module _ (xs ys : List Standing) (ls : List Listed) (h : ListedAll xs ys ls) where
  first_step : (x : Standing) → BelowAll x.key xs → BelowAll x.key ys → ListedAll (x ∷ xs) ys (only first_only x ∷ ls)
  first_step x bx by = record { order = Compare.also below h.order; first = first; second = λ y m. later (h.second y m); each = each }
    where
      below : (l : Listed) → Memᴰ l ls → Below x.key l.key
      below l m = below_listed x.key (h.each l m) bx by

      first : (z : Standing) → Memᴰ z (x ∷ xs) → Found z.key (only first_only x ∷ ls)
      first z (Memᴰ.head e) = (only first_only x, Memᴰ.head refl, ap standing_key (sym e))
      first z (Memᴰ.tail m) = later (h.first z m)

      each : (l : Listed) → Memᴰ l (only first_only x ∷ ls) → Judged (x ∷ xs) ys l
      each l (Memᴰ.head e) = rw e (in_first x (Memᴰ.head refl) refl (λ y m q. never_itself (by y m) (sym q)) refl)
      each l (Memᴰ.tail m) = one_more_first (below l m) (h.each l m)

  second_step : (y : Standing) → BelowAll y.key xs → BelowAll y.key ys → ListedAll xs (y ∷ ys) (only second_only y ∷ ls)
  second_step y bx by = record { order = Compare.also below h.order; first = λ x m. later (h.first x m); second = second; each = each }
    where
      below : (l : Listed) → Memᴰ l ls → Below y.key l.key
      below l m = below_listed y.key (h.each l m) bx by

      second : (z : Standing) → Memᴰ z (y ∷ ys) → Found z.key (only second_only y ∷ ls)
      second z (Memᴰ.head e) = (only second_only y, Memᴰ.head refl, ap standing_key (sym e))
      second z (Memᴰ.tail m) = later (h.second z m)

      each : (l : Listed) → Memᴰ l (only second_only y ∷ ls) → Judged xs (y ∷ ys) l
      each l (Memᴰ.head e) = rw e (in_second y (Memᴰ.head refl) refl (λ x m q. never_itself (bx x m) (sym q)) refl)
      each l (Memᴰ.tail m) = one_more_second (below l m) (h.each l m)

  both_step : (x y : Standing) → x.key ≡ y.key → BelowAll x.key xs → BelowAll y.key ys → ListedAll (x ∷ xs) (y ∷ ys) (matched x y ∷ ls)
  both_step x y k bx by = record { order = Compare.also below h.order; first = first; second = second; each = each }
    where
      below : (l : Listed) → Memᴰ l ls → Below x.key l.key
      below l m = below_listed x.key (h.each l m) bx (rw k by)

      first : (z : Standing) → Memᴰ z (x ∷ xs) → Found z.key (matched x y ∷ ls)
      first z (Memᴰ.head e) = (matched x y, Memᴰ.head refl, ap standing_key (sym e))
      first z (Memᴰ.tail m) = later (h.first z m)

      second : (z : Standing) → Memᴰ z (y ∷ ys) → Found z.key (matched x y ∷ ls)
      second z (Memᴰ.head e) = (matched x y, Memᴰ.head refl, k ∙ ap standing_key (sym e))
      second z (Memᴰ.tail m) = later (h.second z m)

      each : (l : Listed) → Memᴰ l (matched x y ∷ ls) → Judged (x ∷ xs) (y ∷ ys) l
      each l (Memᴰ.head e) = rw e (in_both x y (Memᴰ.head refl) (Memᴰ.head refl) refl (sym k) refl)
      each l (Memᴰ.tail m) = one_more_first (below l m) (one_more_second (rw k at (below l m)) (h.each l m))

-- below the first of a rising list is below all of it
below_rest : (k : Key) (y : Standing) (ys : List Standing) → Below k y.key → BelowAll y.key ys → BelowAll k (y ∷ ys)
below_rest k y ys b by z (Memᴰ.head e) = rw e b
below_rest k y ys b by z (Memᴰ.tail m) = keys_ordered.trans k y.key z.key b (by z m)

module _ (x : Standing) (rest : List Standing → List Listed) (xs : List Standing) (bx : BelowAll x.key xs)
    (law : (ys : List Standing) → Rising standing_key ys → ListedAll xs ys (rest ys)) where
  listed_against : (ys : List Standing) → Rising standing_key ys → ListedAll (x ∷ xs) ys (against x rest ys)
  unfolding against
  listed_against [] r = first_step xs [] (rest []) (law [] r) x bx (λ y m. absurd (Memᴰ.not-nil m))
  listed_against (y ∷ ys) (Compare.also by r) =
      go (compare_keys x.key y.key) refl (law (y ∷ ys) (Compare.also by r)) (law ys r) (listed_against ys r)
    where
      go : (o : Order) → compare_keys x.key y.key ≡ o
          → ListedAll xs (y ∷ ys) (rest (y ∷ ys)) → ListedAll xs ys (rest ys) → ListedAll (x ∷ xs) ys (against x rest ys)
          → ListedAll (x ∷ xs) (y ∷ ys) (by_order o (only first_only x ∷ rest (y ∷ ys)) (matched x y ∷ rest ys) (only second_only y ∷ against x rest ys))
      go less e p q r = first_step xs (y ∷ ys) (rest (y ∷ ys)) p x bx (below_rest x.key y ys e by)
      go equal e p q r = both_step xs ys (rest ys) q x y (keys_ordered.same x.key y.key e) bx by
      go greater e p q r =
          let b : Below y.key x.key = keys_ordered.back x.key y.key ∙ ap turned e in
          second_step (x ∷ xs) ys (against x rest ys) r y (below_rest y.key x xs b bx) by

listed_none : (ys : List Standing) → Rising standing_key ys → ListedAll [] ys (map (only second_only) ys)
listed_none [] r =
    record {
      order = Compare.none;
      first = λ x m. absurd (Memᴰ.not-nil m);
      second = λ y m. absurd (Memᴰ.not-nil m);
      each = λ l m. absurd (Memᴰ.not-nil m);
    }
listed_none (y ∷ ys) (Compare.also by r) =
    second_step [] ys (map (only second_only) ys) (listed_none ys r) y (λ x m. absurd (Memᴰ.not-nil m)) by

pub listed_all : (xs ys : List Standing) → Rising standing_key xs → Rising standing_key ys → ListedAll xs ys (compared xs ys)
unfolding compared
listed_all [] ys Compare.none r = listed_none ys r
listed_all (x ∷ xs) ys (Compare.also bx q) r = listed_against x (compared xs) xs bx (λ ys r. listed_all xs ys q r) ys r

-- ---- A section against itself: all agreed
both_agree : (a : Bool) → of_both a a ≡ agreed
both_agree true = refl
both_agree false = refl

pub same_same : (xs : List Standing) → compared xs xs ≡ map (only agreed) xs
unfolding compared against
same_same [] = refl
same_same (x ∷ xs) = rw (keys_ordered.self x.key, both_agree x.authorised, same_same xs)

-- ---- The other way round
swap_both : (a b : Bool) → of_both b a ≡ exchanged (of_both a b)
swap_both true true = refl
swap_both true false = refl
swap_both false true = refl
swap_both false false = refl

pub swapped : (xs ys : List Standing) → compared ys xs ≡ map exchanged_in (compared xs ys)
unfolding compared against
swapped [] [] = refl
swapped [] (y ∷ ys) = ap (λ (ls : List Listed). only first_only y ∷ ls) (swapped [] ys)
swapped (x ∷ xs) [] = ap (λ (ls : List Listed). only second_only x ∷ ls) (swapped xs [])
swapped (x ∷ xs) (y ∷ ys) =
    rw (keys_ordered.back x.key y.key)
    (go (compared xs (y ∷ ys)) (compared xs ys) (compared (x ∷ xs) ys) (compare_keys x.key y.key) (keys_ordered.same x.key y.key)
    (swapped xs (y ∷ ys)) (swapped xs ys) (swapped (x ∷ xs) ys))
  where
    go : {ls' ms' ns' : List Listed} (ls ms ns : List Listed) (o : Order) → (o ≡ equal → x.key ≡ y.key)
        → ls' ≡ map exchanged_in ls → ms' ≡ map exchanged_in ms → ns' ≡ map exchanged_in ns
        → by_order (turned o) (only first_only y ∷ ns') (matched y x ∷ ms') (only second_only x ∷ ls')
        ≡ map exchanged_in (by_order o (only first_only x ∷ ls) (matched x y ∷ ms) (only second_only y ∷ ns))
    go ls ms ns less same p q r = ap (λ (ls : List Listed). only second_only x ∷ ls) p
    go ls ms ns equal same p q r = rw (q, swap_both x.authorised y.authorised, same refl)
    go ls ms ns greater same p q r = ap (λ (ls : List Listed). only first_only y ∷ ls) r

exchanged_code : (v w : Verdict) → eqb (code (exchanged v)) (code w) ≡ eqb (code v) (code (exchanged w))
exchanged_code agreed agreed = refl
exchanged_code agreed contradicted = refl
exchanged_code agreed first_only = refl
exchanged_code agreed second_only = refl
exchanged_code contradicted agreed = refl
exchanged_code contradicted contradicted = refl
exchanged_code contradicted first_only = refl
exchanged_code contradicted second_only = refl
exchanged_code first_only agreed = refl
exchanged_code first_only contradicted = refl
exchanged_code first_only first_only = refl
exchanged_code first_only second_only = refl
exchanged_code second_only agreed = refl
exchanged_code second_only contradicted = refl
exchanged_code second_only first_only = refl
exchanged_code second_only second_only = refl

exchanged_total : (v : Verdict) (ls : List Listed) → total v (map exchanged_in ls) ≡ total (exchanged v) ls
unfolding total
exchanged_total v [] = refl
exchanged_total v (l ∷ ls) = rw (exchanged_code l.verdict v, exchanged_total v ls)

-- the same totals, the last two exchanged
pub swapped_total : (v : Verdict) (xs ys : List Standing) → total v (compared ys xs) ≡ total (exchanged v) (compared xs ys)
swapped_total v xs ys = ap (total v) (swapped xs ys) ∙ exchanged_total v (compared xs ys)
