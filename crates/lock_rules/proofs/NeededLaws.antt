-- The condition of 67 is needed: a write with 17 components that touches the write of another owner is refused with 66. By computation.
use mathlib.Core.Path.{◌≡◌, refl}
use Prim.Native.Nat.{ℕ}
use native.Mathlib.Omega.{arith}
use mathlib.Core.List.Memᴰ
use mathlib.Core.List.{[], ◌∷◌}
use mathlib.Core.Bool.{true}
use lib.Dec.{eqb}
use lib.ListN.{replicate}
use Rattle.local_format.specs.Out.{refuse}
use Rattle.semcode_records.specs.Component.{tuple_index}
use Rattle.semcode_records.specs.Path.{Path, write, no_execution}
use Rattle.lock_rules.specs.Lock.{Lock, begins, touches}
use Rattle.lock_rules.specs.Register.{any, claimed}
use Rattle.lock_rules.proofs.ClaimLaws.{Met}

-- a write of 17 components on root 5
abbrev long : Path
long =
    record {
      event = write no_execution;
      root = 5;
      components = record { start = 0; entries = replicate 17 (record { start = 0; value = tuple_index 0; next = 0 }); end = 0 };
    }

-- owner 1 writes all below root 5
abbrev all : Lock ℕ
all = record { owner = 1; write = true; root = 5; parts = [] }

pub long_and_met : (claimed eqb (λ n. n) 2 (all ∷ []) (long ∷ []) ≡ refuse 66 0) × Met eqb (λ n. n) 2 (all ∷ []) (long ∷ [])
unfolding claimed any begins touches
long_and_met = (
  refl,
  record {
    path = long;
    among = Memᴰ.head refl;
    lock = all;
    is_held = Memᴰ.head refl;
    other = λ e. omega arith;
    touch = refl;
    writes = refl;
  },
)
