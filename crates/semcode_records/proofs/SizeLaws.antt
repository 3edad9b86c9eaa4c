-- A component of which 7 bytes are there is passed by its size.
use mathlib.Core.Path.{◌≡◌, refl, sym, ◌∙◌}
use Prim.Native.Nat.{ℕ, zero, suc, ◌+◌, ◌≤◌, ◌<◌}
use native.Mathlib.Omega.{arith}
use mathlib.Core.Bool.{Bool, true, false}
use mathlib.Core.List.{List}
use lib.Dec.{leb, eqb}
use borrow.Author.Tests.{lt-leb}
use lib.ListN.{length, get_or}
use Rattle.local_format.specs.Field.{le}
use Rattle.local_format.proofs.FieldLaws.{field_there, le_1}
use Rattle.semcode_records.specs.Records.{taken}
use Rattle.semcode_records.specs.Component.{Component, tuple_index, field_symbol, variant, sequence_index}
use Rattle.semcode_records.specs.Component.{tuple_index_at, field_symbol_at, variant_at, sequence_index_at, component_of, component_at}
use Rattle.semcode_records.specs.Sizes.{sizes, size_in}

-- a component of so many bytes, by its kind
pub data Sized (revision event : ℕ) (s : List ℕ) (at n : ℕ) : Type 0 where
  a_tuple : le 1 s at ≡ 0 → n ≡ 3 → component_at revision event s at ≡ taken (tuple_index (le 2 s (at + 1))) (at + 3) → Sized revision event s at n
  a_symbol : le 1 s at ≡ 1 → n ≡ 5 → component_at revision event s at ≡ taken (field_symbol (le 4 s (at + 1))) (at + 5) → Sized revision event s at n
  a_variant : le 1 s at ≡ 2 → n ≡ 7 → component_at revision event s at ≡ taken (variant (le 4 s (at + 1)) (le 2 s (at + 5))) (at + 7)
      → Sized revision event s at n
  a_sequence : le 1 s at ≡ 3 → n ≡ 5 → component_at revision event s at ≡ taken (sequence_index (le 4 s (at + 1))) (at + 5) → Sized revision event s at n

module _ (revision event : ℕ) (s : List ℕ) (at : ℕ) (there : at + 7 ≤ length s) where
  tuple_there : le 1 s at ≡ 0 → component_at revision event s at ≡ taken (tuple_index (le 2 s (at + 1))) (at + 3)
  unfolding component_at component_of tuple_index_at
  tuple_there k =
      let n : at + 1 + 2 ≡ at + 3 = omega arith in
      rw (field_there 50 1 s at (omega arith), k, field_there 51 2 s (at + 1) (omega arith), n)

  symbol_there_lem : le 1 s at ≡ 1 → component_at revision event s at ≡ taken (field_symbol (le 4 s (at + 1))) (at + 5)
  unfolding component_at component_of field_symbol_at
  symbol_there_lem k =
      let n : at + 1 + 4 ≡ at + 5 = omega arith in
      rw (field_there 50 1 s at (omega arith), k, field_there 52 4 s (at + 1) (omega arith), n)

  module _ (from22 : leb 22 revision ≡ true) where
    variant_there : le 1 s at ≡ 2 → eqb event 1 ≡ false → component_at revision event s at ≡ taken (variant (le 4 s (at + 1)) (le 2 s (at + 5))) (at + 7)
    unfolding component_at component_of variant_at
    variant_there k w =
        let n : at + 1 + 4 ≡ at + 5 = omega arith in
        let m : at + 5 + 2 ≡ at + 7 = omega arith in
        rw (
          field_there 50 1 s at (omega arith),
          k,
          w,
          from22,
          field_there 55 4 s (at + 1) (omega arith),
          n,
          field_there 56 2 s (at + 5) (omega arith),
          m,
        )

    sequence_there : le 1 s at ≡ 3 → component_at revision event s at ≡ taken (sequence_index (le 4 s (at + 1))) (at + 5)
    unfolding component_at component_of sequence_index_at
    sequence_there k =
        let n : at + 1 + 4 ≡ at + 5 = omega arith in
        rw (field_there 50 1 s at (omega arith), k, from22, field_there 58 4 s (at + 1) (omega arith), n)

  by_size : (kind n : ℕ) (from22 writes : Bool) → le 1 s at ≡ kind → leb 22 revision ≡ from22 → eqb event 1 ≡ writes
      → n ≡ size_in (sizes revision event) kind → 0 < n → Sized revision event s at n
  unfolding sizes size_in
  by_size zero n true true k p q e h = a_tuple k (e ∙ rw (p, q)) (tuple_there k)
  by_size zero n true false k p q e h = a_tuple k (e ∙ rw (p, q)) (tuple_there k)
  by_size zero n false w k p q e h = a_tuple k (e ∙ rw p) (tuple_there k)
  by_size (suc zero) n true true k p q e h = a_symbol k (e ∙ rw (p, q)) (symbol_there_lem k)
  by_size (suc zero) n true false k p q e h = a_symbol k (e ∙ rw (p, q)) (symbol_there_lem k)
  by_size (suc zero) n false w k p q e h = a_symbol k (e ∙ rw p) (symbol_there_lem k)
  by_size (suc (suc zero)) n true true k p q e h = let z : n ≡ 0 = e ∙ rw (p, q) in absurd (omega arith)
  by_size (suc (suc zero)) n true false k p q e h = a_variant k (e ∙ rw (p, q)) (variant_there p k q)
  by_size (suc (suc zero)) n false w k p q e h = let z : n ≡ 0 = e ∙ rw p in absurd (omega arith)
  by_size (suc (suc (suc zero))) n true true k p q e h = a_sequence k (e ∙ rw (p, q)) (sequence_there p k)
  by_size (suc (suc (suc zero))) n true false k p q e h = a_sequence k (e ∙ rw (p, q)) (sequence_there p k)
  by_size (suc (suc (suc zero))) n false w k p q e h = let z : n ≡ 0 = e ∙ rw p in absurd (omega arith)
  by_size (suc (suc (suc (suc kind)))) n f w k p q e h =
      let z : n ≡ 0 = e ∙ rw (lt-leb (suc (suc (suc (suc kind)))) 3 (omega arith)) in
      absurd (omega arith)

  pub sized : (n : ℕ) → n ≡ size_in (sizes revision event) (get_or s at 0) → 0 < n → Sized revision event s at n
  sized n e h = by_size (get_or s at 0) n _ _ (sym (le_1 s at)) refl refl e h

-- it ends after its size
pub sized_end : {revision event : ℕ} {s : List ℕ} {at n : ℕ} → Sized revision event s at n
    → (c : Component) × (component_at revision event s at ≡ taken c (at + n))
sized_end {s = s} {at = at} (a_tuple k e h) = (tuple_index (le 2 s (at + 1)), rw e h)
sized_end {s = s} {at = at} (a_symbol k e h) = (field_symbol (le 4 s (at + 1)), rw e h)
sized_end {s = s} {at = at} (a_variant k e h) = (variant (le 4 s (at + 1)) (le 2 s (at + 5)), rw e h)
sized_end {s = s} {at = at} (a_sequence k e h) = (sequence_index (le 4 s (at + 1)), rw e h)
