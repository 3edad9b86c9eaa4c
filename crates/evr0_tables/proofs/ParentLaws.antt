-- The parent cells, which have one size: all there, or the first cut one refused at its place.
use Prim.Native.Nat.{ℕ, zero, suc, ◌+◌, ◌-◌, ◌*◌, ◌/◌, ◌≤◌, ◌<◌}
use mathlib.Core.Path.{◌≡◌, refl, ap, ◌∙◌}
use mathlib.Core.List.{List, [], ◌∷◌}
use native.Mathlib.Omega.{arith}
use native.Mathlib.Decide.{dec_le}
use lib.ListN.{length, drop, length-drop}
use Rattle.local_format.specs.Refusal.{refusal}
use Rattle.local_format.specs.Out.{Out, ok, refused, refuse}
use Rattle.local_format.specs.Field.{le}
use Rattle.local_format.proofs.FieldLaws.{field_there, is_cut}
use Rattle.evr0_section.specs.Rows.{Row, Entry, Rows, rows}
use Rattle.evr0_section.specs.Witness.{parent_row}
use Rattle.evr0_section.proofs.RowsLaws.{after, entry, after_none, rows_none, rows_refused, rows_turn}
use Rattle.evr0_tables.specs.Maps.{next_in}

next_after : {A S : Type 0} (es : List (Entry A)) (x : Out (Rows A S)) → next_in (after es x) ≡ next_in x
next_after es (ok t) = refl
next_after es (refused r) = refl

module _ (p : List ℕ) where
  cell : (at : ℕ) → at + 4 ≤ length p → (r : Row ℕ (Unit {0})) × (parent_row tt (drop at p) ≡ ok r) × (r.size ≡ 4) × (r.state ≡ tt)
  unfolding parent_row
  cell at h =
      let l : 0 + 4 ≤ length (drop at p) = rw length-drop (omega arith) in
      (record { item = le 4 (drop at p) 0; size = 0 + 4; state = tt }, rw (field_there 5 4 (drop at p) 0 l), refl, refl)

  cut_cell : (at : ℕ) → length p < at + 4 → parent_row tt (drop at p) ≡ refuse 5 0
  unfolding parent_row
  cut_cell at h =
      let l : length (drop at p) - 0 < 4 = rw length-drop (omega arith) in
      rw (← is_cut 4 (drop at p) 0 l)

  -- one cell, and then the rest
  on : (n at : ℕ) → at + 4 ≤ length p → next_in (rows parent_row (suc n) tt p at) ≡ next_in (rows parent_row n tt p (at + 4))
  on n at h =
      let c = cell at h in
      ap next_in (after_none (rows parent_row (suc n) tt p at) ∙ rows_turn parent_row p n at tt [] c.0 c.1)
      ∙ next_after (entry at c.0 ∷ []) (rows parent_row n c.0.state p (at + c.0.size))
      ∙ ap (λ (k : ℕ). next_in (rows parent_row n tt p (at + k))) c.2

  pub parents_there : (n at : ℕ) → at + 4 * n ≤ length p → next_in (rows parent_row n tt p at) ≡ ok (at + 4 * n)
  parents_there zero at h = ap next_in (rows_none parent_row p at tt) ∙ ap (λ (k : ℕ). ok k) (omega arith)
  parents_there (suc n) at h =
      let e : at + 4 + 4 * n ≡ at + 4 * suc n = omega arith in
      on n at (omega arith) ∙ parents_there n (at + 4) (omega arith) ∙ ap (λ (k : ℕ). ok k) e

  pub parents_cut : (n at : ℕ) → at ≤ length p → length p < at + 4 * n → next_in (rows parent_row n tt p at) ≡ refuse 5 (at + 4 * ((length p - at) / 4))
  parents_cut zero at k h = absurd (omega arith)
  parents_cut (suc n) at k h = go (dec_le (at + 4) (length p)) (λ l. parents_cut n (at + 4) l (omega arith))
    where
      go : Dec (at + 4 ≤ length p) → (at + 4 ≤ length p → next_in (rows parent_row n tt p (at + 4)) ≡ refuse 5 (at + 4 + 4 * ((length p - (at + 4)) / 4)))
          → next_in (rows parent_row (suc n) tt p at) ≡ refuse 5 (at + 4 * ((length p - at) / 4))
      go (yes l) rest =
          let e : at + 4 + 4 * ((length p - (at + 4)) / 4) ≡ at + 4 * ((length p - at) / 4) = omega arith in
          on n at l ∙ rest l ∙ ap (λ (m : ℕ). refuse 5 m) e
      go (no l) rest =
          let e : at + 0 ≡ at + 4 * ((length p - at) / 4) = omega arith in
          ap next_in (rows_refused parent_row p n at tt (refusal 5 0) (cut_cell at (omega arith))) ∙ ap (λ (m : ℕ). refuse 5 m) e
