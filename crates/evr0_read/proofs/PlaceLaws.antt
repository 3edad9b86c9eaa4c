-- Where a witness and a parent cell start: before the end of the payload where the number is in its table, and otherwise 0.
use Prim.Native.Nat.{ℕ, ◌+◌, ◌-◌, ◌*◌, ◌≤◌, ◌<◌}
use mathlib.Core.Path.{◌≡◌, sym, ap, ◌∙◌}
use native.Mathlib.Nat.{mul-add}
use native.Mathlib.Omega.{arith}
use borrow.Author.Tests.{lt-ltb, le-ltb}
use Rattle.evr0_section.specs.Head.{witness_size}
use Rattle.evr0_read.specs.Place.{witness_place, parent_place}

-- so many steps back, in two parts
pub steps_back : (len a b : ℕ) → len - b - a ≡ len - (a + b)
steps_back len a b = omega arith

-- the k-th of n records stands as far from the last one's end as the others take
pub from_end : (size n k at : ℕ) {end : ℕ} → k < n → end ≡ at + size * n → at + size * k ≡ end - size * (n - k)
from_end size n k at h e =
    let m : n - k + k ≡ n = omega arith in
    let q : size * (n - k) + size * k ≡ size * n = sym (mul-add size (n - k) k) ∙ ap (λ (i : ℕ). size * i) m in
    omega (arith, q, e)

module _ (len width witnesses parents k : ℕ) where
  pub witness_there : {x : ℕ} → k < witnesses → x ≡ len - (witness_size width * (witnesses - k) + 4 * parents) → x ≡ witness_place len width witnesses parents k
  unfolding witness_place
  witness_there h e = e ∙ rw (lt-ltb k witnesses h)

  pub witness_none : witnesses ≤ k → 0 ≡ witness_place len width witnesses parents k
  unfolding witness_place
  witness_none h = rw (le-ltb k witnesses h)

module _ (len parents k : ℕ) where
  pub parent_there : {x : ℕ} → k < parents → x ≡ len - 4 * (parents - k) → x ≡ parent_place len parents k
  unfolding parent_place
  parent_there h e = e ∙ rw (lt-ltb k parents h)

  pub parent_none : parents ≤ k → 0 ≡ parent_place len parents k
  unfolding parent_place
  parent_none h = rw (le-ltb k parents h)
