-- The key of a proposition by the place where it starts: the four fields that stand there.
use Prim.Native.Nat.{ℕ, ◌+◌, ◌-◌}
use mathlib.Core.Path.{◌≡◌, refl}
use native.Mathlib.Omega.{arith}
use mathlib.Core.List.{List}
use lib.ListN.{take, drop}
use Rattle.local_format.specs.Field.{le}
use Rattle.evr0_compare.specs.Merge.{key_at}

-- the bytes from a place on to one that is n further
pub between : (p : List ℕ) (at n : ℕ) {k : ℕ} → n ≡ k → take (at + n - at) (drop at p) ≡ take k (drop at p)
between p at n e = let l : at + n - at ≡ n = omega arith in rw (l, e)

pub key_is : (p : List ℕ) (a : ℕ) {n o s t : ℕ} → n ≡ le 2 p a → o ≡ le 4 p (a + 2 + n) → s ≡ le 4 p (a + 2 + n + 4) → t ≡ le 4 p (a + 2 + n + 8)
    → record { kind = take (a + 2 + n - (a + 2)) (drop (a + 2) p); owner = o; scope = s; type = t } ≡ key_at p a
unfolding key_at
key_is p a {n} is owner scope type = rw (between p (a + 2) n refl, owner, scope, type, is)
