-- One turn of the merge: what was written and counted, with what is left, still makes the whole.
use Prim.Native.Nat.{ℕ, ◌+◌, ◌≤◌, ◌<◌}
use mathlib.Core.Path.{◌≡◌, ap, ◌∙◌}
use mathlib.Core.Bool.{cond}
use mathlib.Core.List.{List}
use native.Mathlib.Omega.{arith}
use lib.Dec.{eqb}
use lib.ListN.{length, drop, set}
use Rattle.evr0_compare.specs.Compare.{Standing, Verdict, code}
use Rattle.evr0_compare.specs.Merge.{Views, next_verdict}
use Rattle.evr0_compare.proofs.Merge.{Merging, goes_on, of_first, of_second, passes_one, one_at_most}

module _ (p ps fs q qs gs brought : List ℕ) where
  pub record Kept (i j entries agreed : ℕ) (table : List ℕ) : Type 0 where
    pub passed : i + j ≤ length ps + length qs + 1
    pub listed : entries ≤ i + j
    pub counted : agreed ≤ entries
    pub same : length table ≡ length brought
    pub merging : (xs ys : List Standing) → Views p ps fs xs → Views q qs gs ys → Merging xs ys brought i j entries agreed table

  pub turn : {i j entries agreed k l more : ℕ} {table after : List ℕ} {v : Verdict} → Kept i j entries agreed table → i + j < length ps + length qs
      → ((xs ys : List Standing) → Views p ps fs xs → Views q qs gs ys → v ≡ next_verdict (drop i xs) (drop j ys))
      → length after ≡ length table → after ≡ set table entries (code v)
      → k ≡ i + of_first (code v) → l ≡ j + of_second (code v) → more ≡ agreed + cond (eqb (code v) 1) 1 0 → Kept k l (entries + 1) more after
  turn {i} {j} {entries} {agreed} {table = table} {v = v} kept h is same put first second more =
      let a = one_at_most (eqb (code v) 4) in
      let b = one_at_most (eqb (code v) 3) in
      let g = one_at_most (eqb (code v) 1) in
      record {
        passed = omega (arith, first, second, a.0, b.0, h);
        listed = omega (arith, first, second, passes_one (code v), kept.listed);
        counted = omega (arith, more, g.1, kept.counted);
        same = same ∙ kept.same;
        merging = λ xs ys x y. goes_on xs ys brought i j entries agreed table (kept.merging xs ys x y) (omega (arith, h, x.count, y.count))
            (ap code (is xs ys x y)) put first second more;
      }
