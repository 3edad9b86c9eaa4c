-- Records of one size, one after the other.
use Prim.Native.Nat.{ℕ, zero, suc, ◌+◌, ◌*◌, ◌≤◌, ◌<◌}
use mathlib.Core.Path.{◌≡◌, refl, ap}
use native.Mathlib.Omega.{arith}
use native.Mathlib.Nat.{mul-add, mul-le-mul_left}
use lib.ListN.{length, get_or}
use Rattle.columns_put.specs.Places.{evenly}

pub evenly_length : (n size first : ℕ) → n ≡ length (evenly n size first)
unfolding evenly
evenly_length zero size first = refl
evenly_length (suc n) size first = ap suc (evenly_length n size (first + size))

pub evenly_at : (n size first i : ℕ) → i < n → first + size * i ≡ get_or (evenly n size first) i 0
unfolding evenly
evenly_at zero size first i h = absurd (omega arith)
evenly_at (suc n) size first zero h = omega arith
evenly_at (suc n) size first (suc i) h = omega (arith, mul-add size i 1, evenly_at n size (first + size) i (omega arith))

-- each starts before the place after the last
pub evenly_within : (size i count : ℕ) → i < count → size * i ≤ size * count
evenly_within size i count h = mul-le-mul_left {m = i} {n = count} size (omega arith)
