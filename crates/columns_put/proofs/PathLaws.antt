-- Where the field of a column stands: by the column, which is one of a few.
use Prim.Native.Nat.{ℕ, zero, suc, ◌+◌, ◌-◌, ◌*◌, ◌≤◌, ◌<◌}
use mathlib.Core.Path.{◌≡◌, refl}
use mathlib.Core.List.{List}
use native.Mathlib.Omega.{arith}
use lib.ListN.{take}
use Rattle.local_format.specs.Field.{le}
use Rattle.evr0_columns.specs.Columns.{proposition_items, proof_items}
use Rattle.columns_put.specs.Places.{after_fields}

module _ (c : List ℕ) (s : ℕ) where
  -- so far behind the text that stands so far from the start
  abbrev behind : ℕ → ℕ → ℕ
  behind to offset = s + to + 2 + le 2 c (s + to) + offset

  pub proposition_behind : (j : ℕ) → (j ≡ 0 → ⊥) → j < 4 → behind 0 (4 * (j - 1)) ≡ after_fields (take j proposition_items) c s
  proposition_behind j p h = go j p h (omega arith)
    where
      go : (j : ℕ) → (j ≡ 0 → ⊥) → j < 4 → s + 0 ≡ s → behind 0 (4 * (j - 1)) ≡ after_fields (take j proposition_items) c s
      go zero p h e = absurd (p refl)
      go (suc zero) p h e = rw e (omega arith)
      go (suc (suc zero)) p h e = rw e (omega arith)
      go (suc (suc (suc zero))) p h e = rw e (omega arith)
      go (suc (suc (suc (suc j)))) p h e = absurd (omega arith)

  -- from the text on
  pub proof_behind : (j : ℕ) → 3 ≤ j → j < 9 → behind 8 (4 * (j - 3)) ≡ after_fields (take j proof_items) c s
  proof_behind j l h = go (j - 3) j (omega arith) (omega arith) (omega arith)
    where
      go : (k j : ℕ) → j ≡ k + 3 → k < 6 → s + 4 + 4 ≡ s + 8 → behind 8 (4 * (j - 3)) ≡ after_fields (take j proof_items) c s
      go zero j f h e = rw (f, ← e) (omega arith)
      go (suc zero) j f h e = rw (f, ← e) (omega arith)
      go (suc (suc zero)) j f h e = rw (f, ← e) (omega arith)
      go (suc (suc (suc zero))) j f h e = rw (f, ← e) (omega arith)
      go (suc (suc (suc (suc zero)))) j f h e = rw (f, ← e) (omega arith)
      go (suc (suc (suc (suc (suc zero))))) j f h e = rw (f, ← e) (omega arith)
      go (suc (suc (suc (suc (suc (suc k)))))) j f h e = absurd (omega arith)
