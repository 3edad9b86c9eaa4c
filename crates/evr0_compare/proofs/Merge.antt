-- The merge: what is left of the list is its next entry and what is left after it, by the order of the first keys; so what was written and
-- counted, with what is left, makes the whole at each turn.
use Prim.Native.Nat.{ℕ, suc, ◌+◌, ◌-◌, ◌≤◌, ◌<◌}
use mathlib.Core.Path.{◌≡◌, refl, sym, ap, ap₂, ◌∙◌}
use mathlib.Core.Bool.{Bool, true, false, cond}
use mathlib.Core.List.{List, [], ◌∷◌, ◌++◌, append_assoc, append-nil}
use native.Mathlib.Omega.{arith}
use native.Mathlib.Decide.{dec_le}
use native.Mathlib.Numerals.{add-one}
use lib.Dec.{eqb}
use lib.ListN.{length, get_or, take, drop, set, length-drop, length-map, length-set, drop_of_length-le}
use lib.Seq.{drop-drop, drop-cons, take_all, take_at, take-suc-set, set_out}
use borrow.Author.Tests.{eqb-true}
use Rattle.evr0_section.specs.Proposition.{Order, less, equal, greater, compare_keys}
use Rattle.evr0_compare.specs.Compare.{Standing, Listed, Verdict, agreed, contradicted, first_only, second_only, code, of_both, only}
use Rattle.evr0_compare.specs.Compare.{by_order, against, compared, total, codes, tally_of, Totals}
use Rattle.evr0_compare.specs.Merge.{key_at, no_standing, Views, next_verdict, written, Lists}
use Rattle.evr0_compare.proofs.Compare.{totals}

-- ---- The next entry

-- how many propositions of the first, and of the second, an entry with this byte passes
abbrev pub of_first : ℕ → ℕ
of_first verdict = cond (eqb verdict 4) 0 1

abbrev pub of_second : ℕ → ℕ
of_second verdict = cond (eqb verdict 3) 0 1

record Next (whole : List Listed) (xs ys : List Standing) (v : Verdict) : Type 0 where
  entry : Listed
  is : entry.verdict ≡ v
  rest : whole ≡ entry ∷ compared (drop (of_first (code v)) xs) (drop (of_second (code v)) ys)
  first : of_first (code v) ≤ length xs
  second : of_second (code v) ≤ length ys

next : (xs ys : List Standing) → 0 < length xs + length ys → Next (compared xs ys) xs ys (next_verdict xs ys)
unfolding compared against
next [] [] h = absurd (omega arith)
next [] (y ∷ ys) h = record { entry = only second_only y; is = refl; rest = refl; first = omega arith; second = omega arith }
next (x ∷ xs) [] h = record { entry = only first_only x; is = refl; rest = refl; first = omega arith; second = omega arith }
next (x ∷ xs) (y ∷ ys) h = go (compare_keys x.key y.key) x.authorised y.authorised
  where
    both : (v : Verdict) → of_first (code v) ≡ 1 → of_second (code v) ≡ 1
        → Next (record { key = x.key; verdict = v } ∷ compared xs ys) (x ∷ xs) (y ∷ ys) v
    both v a b =
        record { entry = record { key = x.key; verdict = v }; is = refl; rest = rw (a, b); first = omega (arith, a); second = omega (arith, b) }

    go : (o : Order) (a b : Bool)
        → Next (by_order o (only first_only x ∷ compared xs (y ∷ ys)) (record { key = x.key; verdict = of_both a b } ∷ compared xs ys)
        (only second_only y ∷ compared (x ∷ xs) ys)) (x ∷ xs) (y ∷ ys) (by_order o first_only (of_both a b) second_only)
    go less a b = record { entry = only first_only x; is = refl; rest = refl; first = omega arith; second = omega arith }
    go equal true true = both agreed refl refl
    go equal true false = both contradicted refl refl
    go equal false true = both contradicted refl refl
    go equal false false = both agreed refl refl
    go greater a b = record { entry = only second_only y; is = refl; rest = refl; first = omega arith; second = omega arith }

-- each entry passes one or two
pub passes_one : (verdict : ℕ) → 0 < of_first verdict + of_second verdict
passes_one verdict = go (eqb verdict 4) refl (eqb verdict 3) refl
  where
    go : (a : Bool) → eqb verdict 4 ≡ a → (b : Bool) → eqb verdict 3 ≡ b → 0 < cond a 0 1 + cond b 0 1
    go true e true f = absurd (omega (arith, eqb-true verdict 4 e, eqb-true verdict 3 f))
    go true e false f = omega arith
    go false e true f = omega arith
    go false e false f = omega arith

pub one_at_most : (b : Bool) → (cond b 0 1 ≤ 1) × (cond b 1 0 ≤ 1)
one_at_most true = (omega arith, omega arith)
one_at_most false = (omega arith, omega arith)

-- ---- The turns

-- one entry counted, and written
module _ (l : Listed) (ls others : List Listed) {verdict : ℕ} (split : ls ≡ l ∷ others) (byte : verdict ≡ code l.verdict) where
  one_counted : total agreed ls ≡ cond (eqb verdict 1) 1 0 + total agreed others
  unfolding total
  one_counted = rw (split, byte)

  one_written : (table : List ℕ) (at : ℕ) → written (set table at verdict) (at + 1) (codes others) ≡ written table at (codes ls)
  unfolding written
  one_written table at = rw (split, byte, add-one at)

module _ (xs ys : List Standing) (brought : List ℕ) where
  abbrev whole : List Listed
  whole = compared xs ys

  abbrev rest : ℕ → ℕ → List Listed
  rest i j = compared (drop i xs) (drop j ys)

  pub record Merging (i j entries same : ℕ) (table : List ℕ) : Type 0 where
    pub first : i ≤ length xs
    pub second : j ≤ length ys
    pub left : entries + length (rest i j) ≡ length whole
    pub agrees : same + total agreed (rest i j) ≡ total agreed whole
    pub bytes : written table entries (codes (rest i j)) ≡ written brought 0 (codes whole)

  pub begins : Merging 0 0 0 0 brought
  begins = record { first = omega arith; second = omega arith; left = omega arith; agrees = omega arith; bytes = refl }

  pub goes_on : (i j entries same : ℕ) (table : List ℕ) {verdict k l most : ℕ} {after : List ℕ} → Merging i j entries same table
      → i + j < length xs + length ys → verdict ≡ code (next_verdict (drop i xs) (drop j ys)) → after ≡ set table entries verdict
      → k ≡ i + of_first verdict → l ≡ j + of_second verdict → most ≡ same + cond (eqb verdict 1) 1 0 → Merging k l (entries + 1) most after
  goes_on i j entries same table {verdict} {after = after} m h is put passed passed' counted =
      let few : 0 < length (drop i xs) + length (drop j ys) = omega (arith, m.first, m.second, length-drop i xs, length-drop j ys) in
      let n : Next (rest i j) (drop i xs) (drop j ys) (next_verdict (drop i xs) (drop j ys)) = next (drop i xs) (drop j ys) few in
      let byte : verdict ≡ code n.entry.verdict = is ∙ ap code (sym n.is) in
      let f : drop (of_first verdict) (drop i xs) ≡ drop (i + of_first verdict) xs = drop-drop (of_first verdict) i xs in
      let g : drop (of_second verdict) (drop j ys) ≡ drop (j + of_second verdict) ys = drop-drop (of_second verdict) j ys in
      let split : rest i j ≡ n.entry ∷ rest (i + of_first verdict) (j + of_second verdict) =
      n.rest ∙ rw (← is) (ap₂ (λ (us vs : List Standing). n.entry ∷ compared us vs) f g) in
      rw (passed, passed', counted)
      (record {
        first = omega (arith, rw (← is) at n.first, length-drop i xs, m.first);
        second = omega (arith, rw (← is) at n.second, length-drop j ys, m.second);
        left = omega (arith, m.left, ap length split);
        agrees = omega (arith, m.agrees, one_counted n.entry (rest i j) _ split byte);
        bytes = rw put (one_written n.entry (rest i j) _ split byte table entries ∙ m.bytes);
      })

  -- nothing is left
  pub ends : (i j entries same : ℕ) (table : List ℕ) → Merging i j entries same table → length xs + length ys ≤ i + j
      → Lists whole brought table entries same
  unfolding compared total written
  ends i j entries same table m h =
      let a : drop i xs ≡ [] = drop_of_length-le xs {i = i} (omega (arith, m.second)) in
      let b : drop j ys ≡ [] = drop_of_length-le ys {i = j} (omega (arith, m.first)) in
      let none : rest i j ≡ [] = rw (a, b) in
      record {
        size = omega (arith, m.left, ap length none);
        agreed = omega (arith, m.agrees, ap (total agreed) none);
        table = rw none at m.bytes;
      }

-- ---- The table and the totals

-- what was written is there, where there was room for all of it
written_front : (table : List ℕ) (at : ℕ) (ns : List ℕ) → at + length ns ≤ length table → take (at + length ns) (written table at ns) ≡ take at table ++ ns
unfolding written
written_front table at [] h = let e : at + 0 ≡ at = omega arith in rw (e, append-nil)
written_front table at (n ∷ ns) h =
    let e : at + suc (length ns) ≡ suc at + length ns = omega arith in
    rw e
    (written_front (set table at n) (suc at) ns (omega (arith, length-set table at n))
    ∙ rw (take-suc-set table at n (omega arith)) (append_assoc (take at table) (n ∷ []) ns))

-- the table is as much of it as there was room for, where there was none for more
written_full : (table : List ℕ) (at : ℕ) (ns : List ℕ) → length table ≤ at + length ns → written table at ns ≡ take (length table) (take at table ++ ns)
unfolding written
written_full table at [] h = rw (append-nil (take at table), take_all at table (omega arith), take_all (length table) table (omega arith))
written_full table at (n ∷ ns) h = go (dec_le (length table) at) (λ t l. written_full t (suc at) ns l)
  where
    go : Dec (length table ≤ at) → ((t : List ℕ) → length t ≤ suc at + length ns → written t (suc at) ns ≡ take (length t) (take (suc at) t ++ ns))
        → written (set table at n) (suc at) ns ≡ take (length table) (take at table ++ (n ∷ ns))
    go (yes l) later =
        rw (set_out table at n l, take_all at table l)
        (later table (omega arith)
        ∙ rw (take_all (suc at) table (omega arith), take_at table ns (length table) refl) (sym (take_at table (n ∷ ns) (length table) refl)))
    go (no l) later =
        later (set table at n) (omega (arith, length-set table at n))
        ∙ rw (length-set table at n, take-suc-set table at n (omega arith))
        (ap (take (length table)) (append_assoc (take at table) (n ∷ []) ns))

module _ (xs ys : List Standing) {before after : List ℕ} {entries same : ℕ} (listed : Lists (compared xs ys) before after entries same) where
  pub list_full : length before ≤ entries → after ≡ take (length before) (codes (compared xs ys))
  list_full h =
      let n : length (codes (compared xs ys)) ≡ entries = length-map (compared xs ys) _ ∙ sym listed.size in
      listed.table ∙ written_full before 0 (codes (compared xs ys)) (omega (arith, n))

  pub list_there : entries ≤ length before → take entries after ≡ codes (compared xs ys)
  list_there h =
      let n : length (codes (compared xs ys)) ≡ entries = length-map (compared xs ys) _ ∙ sym listed.size in
      let e : entries ≡ 0 + length (codes (compared xs ys)) = omega (arith, n) in
      rw (e, listed.table) (written_front before 0 (codes (compared xs ys)) (omega (arith, n)))

  -- the totals by the counts
  pub tally_is : tally_of (compared xs ys)
      ≡ record { agreed = same; contradicted = length xs + length ys - entries - same; first_only = entries - length ys; second_only = entries - length xs }
  tally_is =
      let sums : Totals xs ys (compared xs ys) = totals xs ys in
      let c : total contradicted (compared xs ys) ≡ length xs + length ys - entries - same =
      omega (arith, sums.first, sums.second, sums.all, listed.size, listed.agreed) in
      let f : total first_only (compared xs ys) ≡ entries - length ys = omega (arith, sums.first, sums.second, sums.all, listed.size) in
      let s : total second_only (compared xs ys) ≡ entries - length xs = omega (arith, sums.first, sums.second, sums.all, listed.size) in
      rw (c, f, s, ← listed.agreed)

-- ---- The next verdict by the bytes
module _ {p ps fs q qs gs : List ℕ} {xs ys : List Standing} (first : Views p ps fs xs) (second : Views q qs gs ys) (i j : ℕ) where
  module _ (l : i < length ps) where
    first_left : drop i xs ≡ record { key = key_at p (get_or ps i 0); authorised = eqb (get_or fs i 0) 1 } ∷ drop (suc i) xs
    first_left = drop-cons xs i no_standing (omega (arith, first.count)) ∙ rw (first.each i l)

    pub second_done : length qs ≤ j → first_only ≡ next_verdict (drop i xs) (drop j ys)
    second_done h = rw (first_left, drop_of_length-le ys {i = j} (omega (arith, second.count)))

    module _ (k : j < length qs) {o : Order} (order : o ≡ compare_keys (key_at p (get_or ps i 0)) (key_at q (get_or qs j 0))) where
      second_left : drop j ys ≡ record { key = key_at q (get_or qs j 0); authorised = eqb (get_or gs j 0) 1 } ∷ drop (suc j) ys
      second_left = drop-cons ys j no_standing (omega (arith, second.count)) ∙ rw (second.each j k)

      by_order_lem : next_verdict (drop i xs) (drop j ys) ≡ by_order o first_only (of_both (eqb (get_or fs i 0) 1) (eqb (get_or gs j 0) 1)) second_only
      by_order_lem = rw (first_left, second_left, ← order)

      pub first_next : o ≡ less → first_only ≡ next_verdict (drop i xs) (drop j ys)
      first_next e = rw (by_order_lem, e)

      pub second_next : o ≡ greater → second_only ≡ next_verdict (drop i xs) (drop j ys)
      second_next e = rw (by_order_lem, e)

      pub both_next : {r : Verdict} → o ≡ equal → r ≡ of_both (eqb (get_or fs i 0) 1) (eqb (get_or gs j 0) 1)
          → r ≡ next_verdict (drop i xs) (drop j ys)
      both_next e h = h ∙ sym (rw (by_order_lem, e))
