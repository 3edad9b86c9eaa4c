-- Laws of decoding UTF-8 a byte at a time: the row of a lead byte, and the step of each later byte.
use mathlib.Core.Path.{◌≡◌, refl, ap, ◌∙◌}
use mathlib.Core.Logic.{◌⊎◌, inl, inr}
use Prim.Native.Nat.{ℕ, zero, suc, ◌+◌, ◌-◌, ◌*◌, ◌%◌, ◌≤◌, ◌<◌}
use native.Mathlib.Omega.{arith}
use native.Mathlib.Numerals.{add-one}
use native.Mathlib.Decide.{dec_le}
use mathlib.Core.List.{List, [], ◌∷◌}
use mathlib.Core.Bool.{Bool, true, false, cond, ◌&&◌, and-false}
use borrow.Author.Tests.{eq-eqb, ne_eqb, eqb-true, eqb-false, le-leb, lt-leb, ltb-true, ltb-false}
use lib.Dec.{eqb, leb, ltb}
use lib.ListN.{length, get_or, drop, drop_of_length-le}
use lib.Seq.{drop-cons}
use Rattle.utf8.specs.Utf8.{Row, row, Step, char, more, bad, going, lead_of, later_of, table, step_of, Decoded, ill, fresh, onto, after, decode_from}
use Rattle.utf8.specs.Scan.{later_at}
use Rattle.utf8.specs.Maps.{part}

-- ---- The lead byte, by the rows of the table
-- the k-th row has a lead byte, which is past the rows before
abbrev Has : ℕ → List Row → ℕ → Type 0
Has k [] b = ⊥
Has zero (row first last due low high top ∷ rows) b = (first ≤ b) × (b ≤ last)
Has (suc k) (row first last due low high top ∷ rows) b = (last < b) × Has k rows b

abbrev row_step : ℕ → List Row → ℕ → Step
row_step k [] b = bad
row_step zero (row first last due low high top ∷ rows) b = going due low high (b % top)
row_step (suc k) (r ∷ rows) b = row_step k rows b

lead_has : (k : ℕ) (rows : List Row) (b : ℕ) → Has k rows b → lead_of rows b ≡ row_step k rows b
unfolding lead_of
lead_has k [] b h = absurd h
lead_has zero (row first last due low high top ∷ rows) b h = simp (le-leb first b h.0, le-leb b last h.1)
lead_has (suc k) (row first last due low high top ∷ rows) b h = simp (lt-leb b last h.0, and-false) (lead_has k rows b h.1)

-- no row has it: it is past k rows and before the others
abbrev Lacks : ℕ → List Row → ℕ → Type 0
Lacks k [] b = Unit {0}
Lacks zero (row first last due low high top ∷ rows) b = (b < first) × Lacks zero rows b
Lacks (suc k) (row first last due low high top ∷ rows) b = (last < b) × Lacks k rows b

lead_lacks : (k : ℕ) (rows : List Row) (b : ℕ) → Lacks k rows b → lead_of rows b ≡ bad
unfolding lead_of
lead_lacks k [] b h = refl
lead_lacks zero (row first last due low high top ∷ rows) b h = simp (lt-leb first b h.0) (lead_lacks zero rows b h.1)
lead_lacks (suc k) (row first last due low high top ∷ rows) b h = simp (lt-leb b last h.0, and-false) (lead_lacks k rows b h.1)

module _ (b : ℕ) where
  pub lead_1 : b ≤ 0x7F → lead_of table b ≡ char b
  unfolding table
  lead_1 h = lead_has 0 table b (omega arith) ∙ ap char (omega arith)

  pub lead_none : 0x7F < b → b ≤ 0xC1 → lead_of table b ≡ bad
  unfolding table
  lead_none g h = lead_lacks 1 table b (omega arith)

  pub lead_2 : 0xC1 < b → b ≤ 0xDF → lead_of table b ≡ more (part 1 0x80 0xBF (b % 32))
  unfolding table
  lead_2 g h = lead_has 1 table b (omega arith)

  module _ (low high : ℕ) where
    -- the second byte starts at A0 after E0 and ends at 9F after ED
    pub lead_3 : low ≡ cond (eqb b 0xE0) 0xA0 0x80 → high ≡ cond (eqb b 0xED) 0x9F 0xBF → 0xDF < b → b ≤ 0xEF
        → lead_of table b ≡ more (part 2 low high (b % 16))
    unfolding table
    lead_3 el eh g h = rw (el, eh) (go (dec_le b 0xE0) (dec_le b 0xEC) (dec_le b 0xED))
      where
        go : Dec (b ≤ 0xE0) → Dec (b ≤ 0xEC) → Dec (b ≤ 0xED) → lead_of table b
            ≡ more (part 2 (cond (eqb b 0xE0) 0xA0 0x80) (cond (eqb b 0xED) 0x9F 0xBF) (b % 16))
        go (yes x) y z = simp (eq-eqb b 0xE0 (omega arith), ne_eqb b 0xED (omega arith)) (lead_has 2 table b (omega arith))
        go (no x) (yes y) z = simp (ne_eqb b 0xE0 (omega arith), ne_eqb b 0xED (omega arith)) (lead_has 3 table b (omega arith))
        go (no x) (no y) (yes z) = simp (ne_eqb b 0xE0 (omega arith), eq-eqb b 0xED (omega arith)) (lead_has 4 table b (omega arith))
        go (no x) (no y) (no z) = simp (ne_eqb b 0xE0 (omega arith), ne_eqb b 0xED (omega arith)) (lead_has 5 table b (omega arith))

    -- the second byte starts at 90 after F0 and ends at 8F after F4
    pub lead_4 : low ≡ cond (eqb b 0xF0) 0x90 0x80 → high ≡ cond (eqb b 0xF4) 0x8F 0xBF → 0xEF < b → b ≤ 0xF4
        → lead_of table b ≡ more (part 3 low high (b % 8))
    unfolding table
    lead_4 el eh g h = rw (el, eh) (go (dec_le b 0xF0) (dec_le b 0xF3))
      where
        go : Dec (b ≤ 0xF0) → Dec (b ≤ 0xF3)
            → lead_of table b ≡ more (part 3 (cond (eqb b 0xF0) 0x90 0x80) (cond (eqb b 0xF4) 0x8F 0xBF) (b % 8))
        go (yes x) y = simp (eq-eqb b 0xF0 (omega arith), ne_eqb b 0xF4 (omega arith)) (lead_has 6 table b (omega arith))
        go (no x) (yes y) = simp (ne_eqb b 0xF0 (omega arith), ne_eqb b 0xF4 (omega arith)) (lead_has 7 table b (omega arith))
        go (no x) (no y) = simp (ne_eqb b 0xF0 (omega arith), eq-eqb b 0xF4 (omega arith)) (lead_has 8 table b (omega arith))

  pub lead_plain : 0xE0 < b → b ≤ 0xEF → (b ≡ 0xED → ⊥) → lead_of table b ≡ more (part 2 0x80 0xBF (b % 16))
  lead_plain g h n = lead_3 0x80 0xBF (rw (ne_eqb b 0xE0 (omega arith))) (rw (ne_eqb b 0xED n)) (omega arith) h

  pub lead_e0 : b ≡ 0xE0 → lead_of table b ≡ more (part 2 0xA0 0xBF (b % 16))
  unfolding table
  lead_e0 e = lead_has 2 table b (omega arith)

  pub lead_ed : b ≡ 0xED → lead_of table b ≡ more (part 2 0x80 0x9F (b % 16))
  unfolding table
  lead_ed e = lead_has 4 table b (omega arith)

  pub lead_f0 : b ≡ 0xF0 → lead_of table b ≡ more (part 3 0x90 0xBF (b % 8))
  unfolding table
  lead_f0 e = lead_has 6 table b (omega arith)

  pub lead_f1 : 0xF0 < b → b ≤ 0xF3 → lead_of table b ≡ more (part 3 0x80 0xBF (b % 8))
  unfolding table
  lead_f1 g h = lead_has 7 table b (omega arith)

  pub lead_f4 : b ≡ 0xF4 → lead_of table b ≡ more (part 3 0x80 0x8F (b % 8))
  unfolding table
  lead_f4 e = lead_has 8 table b (omega arith)

  pub lead_past : 0xF4 < b → lead_of table b ≡ bad
  unfolding table
  lead_past g = lead_lacks 9 table b (omega arith)

-- a bound that is narrower after one lead byte
pub bounds : (b narrow then other x : ℕ) → x ≡ cond (eqb b narrow) then other → ((b ≡ narrow) × (x ≡ then)) ⊎ ((b ≡ narrow → ⊥) × (x ≡ other))
bounds b narrow then other x = go (eqb b narrow) refl
  where
    go : (t : Bool) → eqb b narrow ≡ t → x ≡ cond t then other → ((b ≡ narrow) × (x ≡ then)) ⊎ ((b ≡ narrow → ⊥) × (x ≡ other))
    go true h e = inl (eqb-true b narrow h, e)
    go false h e = inr (eqb-false b narrow h, e)

-- ---- One byte
-- what a step makes of the bytes after it
abbrev pub stepped : Step → List ℕ → Decoded
stepped t s = onto t (decode_from (after t) s)

-- what is due after a later byte, where it is in its range
abbrev pub later_step : Bool → ℕ → ℕ → ℕ → Step
later_step t due point b = cond t (going due 0x80 0xBF (point * 64 + b % 64)) bad

pub lead_step : (b : ℕ) (s : List ℕ) (t : Step) → lead_of table b ≡ t → decode_from fresh (b ∷ s) ≡ stepped t s
unfolding decode_from step_of
lead_step b s t e = rw e

pub lead_on : (s : List ℕ) (i : ℕ) → i < length s → (t : Step) → lead_of table (get_or s i 0) ≡ t
    → decode_from fresh (drop i s) ≡ stepped t (drop (i + 1) s)
lead_on s i h t e = rw (add-one, drop-cons s i 0 h) (lead_step (get_or s i 0) (drop (suc i) s) t e)

module _ (due low high point : ℕ) where
  pub later_step_lem : (b : ℕ) (s : List ℕ) (t : Bool) → (leb low b && leb b high) ≡ t
      → decode_from (part (suc due) low high point) (b ∷ s) ≡ stepped (later_step t due point b) s
  unfolding decode_from step_of later_of
  later_step_lem b s t e = let q : suc due - 1 ≡ due = omega arith in rw (ne_eqb (suc due) 0 (omega arith), e, q)

  pub cut_ill : decode_from (part (suc due) low high point) [] ≡ ill
  unfolding decode_from
  cut_ill = rw (ne_eqb (suc due) 0 (omega arith))

  pub later_on : (s : List ℕ) (i : ℕ) (t : Bool) → later_at low high s i ≡ t
      → decode_from (part (suc due) low high point) (drop i s) ≡ stepped (later_step t due point (get_or s i 0)) (drop (i + 1) s)
  unfolding later_at
  later_on s i t e = go (ltb i (length s)) refl e
    where
      go : (there : Bool) → ltb i (length s) ≡ there → (there && (leb low (get_or s i 0) && leb (get_or s i 0) high)) ≡ t
          → decode_from (part (suc due) low high point) (drop i s) ≡ stepped (later_step t due point (get_or s i 0)) (drop (i + 1) s)
      go true h k =
          let l : i < length s = ltb-true i (length s) h in
          rw (add-one, drop-cons s i 0 l) (later_step_lem (get_or s i 0) (drop (suc i) s) t k)
      go false h k = rw (drop_of_length-le s {i = i} (ltb-false i (length s) h), ← k) cut_ill
