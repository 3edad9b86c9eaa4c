-- The mark of a proof by the bytes of its record, and of all proofs by one after the other: the tables are those that the payload holds at
-- their places.
use Prim.Native.Nat.{ℕ, ◌+◌, ◌-◌, ◌*◌, ◌≤◌, ◌<◌}
use mathlib.Core.Path.{◌≡◌, sym, ap, ap₂, ◌∙◌}
use mathlib.Core.List.{List, [], ◌∷◌, ◌++◌, map}
use native.Mathlib.Omega.{arith}
use native.Mathlib.Numerals.{add-one}
use lib.ListN.{length, get_or, take, set, length-map, get_or-eq_default}
use lib.Seq.{take-suc-set, length-take-le}
use Rattle.local_format.specs.Field.{le}
use Rattle.local_format.proofs.FieldLaws.{le_1}
use Rattle.derivation.specs.Rule.{Rule}
use Rattle.derivation.specs.Section.{Proof, Section, Witness, no_witness, proof_at, witness_at, parent_at}
use Rattle.derivation.specs.InOrder.{in_order, gathered}
use Rattle.derivation.specs.Mark.{end_polarity, end_mark, joined, mark_of, marks}
use Rattle.derivation.proofs.Laws.{in_order_none, in_order_turn, gathered_turn, mark_end, mark_inner}
use Rattle.evr0_pass.specs.View.{Layout, after_name, places, proof_view, width_in, witness_view, view}
use Rattle.evr0_pass.proofs.ViewLaws.{length_places, proof_total_lem, proof_at_lem, witness_at_lem}

module _ (rules : List Rule) (p starts : List ℕ) (l : Layout) where
  abbrev s : Section
  s = view rules p starts l

  -- ---- A witness
  pub polarity_there : (w : ℕ) → w < l.counts.witnesses → get_or p (l.witnesses_at + l.witness_size * w + 8) 0 ≡ (witness_at s w).polarity
  unfolding witness_view
  polarity_there w h = le_1 p (l.witnesses_at + l.witness_size * w + 8) ∙ sym (ap (λ (x : Witness). x.polarity) (witness_at_lem rules p starts l w h))

  pub polarity_none : (w : ℕ) → l.counts.witnesses ≤ w → 0 ≡ (witness_at s w).polarity
  unfolding witness_at view
  polarity_none w h =
      let at = places l.witness_size l.counts.witnesses l.witnesses_at in
      let here : ℕ → Witness = witness_view (width_in l.witness_size) p in
      let few : length (map here at) ≤ w = omega (arith, length-map at here, length_places l.witness_size l.counts.witnesses l.witnesses_at) in
      ap (λ (x : Witness). x.polarity) (sym (get_or-eq_default (map here at) no_witness {n = w} few))

  -- ---- The parents
  -- one of them, whose number is `parent`, with the marks before it
  pub parent_turn : (known : List ℕ) (end c m parent : ℕ) {mark whole : ℕ} → c < end → parent ≡ parent_at s c
      → mark ≡ joined m (get_or known parent 0) → gathered joined s known (end - c) c m ≡ whole
      → gathered joined s known (end - (c + 1)) (c + 1) mark ≡ whole
  parent_turn known end c m parent h is e inv =
      let n : end - c - 1 ≡ end - (c + 1) = omega arith in
      rw (e, is, ← n) (sym (gathered_turn joined s known (end - c) c m (omega arith)) ∙ inv)

  -- ---- A proof, of whose parents these are the cells
  module _ (known : List ℕ) {i first end : ℕ} (there : i < length starts)
      (cells : (first ≡ (proof_at s i).first_parent) × (end ≡ first + (proof_at s i).parent_count)) where
    is : proof_at s i ≡ proof_view rules p (get_or starts i 0)
    is = proof_at_lem rules p starts l i there

    pub marked_end : {rest witness polarity mark : ℕ} → first ≡ end → rest ≡ after_name p (get_or starts i 0) → witness ≡ le 4 p (rest + 4)
        → polarity ≡ (witness_at s witness).polarity → mark ≡ end_mark polarity → mark ≡ mark_of s i known
    unfolding proof_view end_polarity
    marked_end {witness = witness} z named w q m =
        let first : witness ≡ (proof_at s i).first_witness = w ∙ ap (λ (n : ℕ). le 4 p (n + 4)) named ∙ sym (ap (λ (q : Proof). q.first_witness) is) in
        m ∙ ap end_mark (q ∙ ap (λ (n : ℕ). (witness_at s n).polarity) first) ∙ sym (mark_end s i known (omega (arith, z, cells.1)))

    pub marked_inner : {mark : ℕ} → (first ≡ end → ⊥) → mark ≡ gathered joined s known (end - first) first 0 → mark ≡ mark_of s i known
    marked_inner z m =
        let count : end - first ≡ (proof_at s i).parent_count = omega (arith, cells.1) in
        m ∙ ap₂ (λ (k c : ℕ). gathered joined s known k c 0) count cells.0 ∙ sym (mark_inner s i known (λ e. z (omega (arith, cells.1, e))))

-- ---- All proofs, one after the other
module _ (rules : List Rule) (p starts : List ℕ) (l : Layout) where
  abbrev tables : Section
  tables = view rules p starts l

  pub none_marked : in_order (mark_of tables) (length starts - 0) 0 [] ≡ marks tables
  unfolding marks
  none_marked = let n : length starts - 0 ≡ length starts = omega arith in rw (n, proof_total_lem rules p starts l)

  pub next_marked : (i mark : ℕ) (table : List ℕ) → i < length starts → i < length table → mark ≡ mark_of tables (length (take i table)) (take i table)
      → in_order (mark_of tables) (length starts - i) i (take i table) ≡ marks tables
      → in_order (mark_of tables) (length starts - (i + 1)) (i + 1) (take (i + 1) (set table i mark)) ≡ marks tables
  next_marked i mark table h k e inv =
      let n : length starts - i - 1 ≡ length starts - (i + 1) = omega arith in
      let same : mark ≡ mark_of tables i (take i table) = e ∙ ap (λ (j : ℕ). mark_of tables j (take i table)) (length-take-le i table (omega arith)) in
      let grown : take (i + 1) (set table i mark) ≡ take i table ++ (mark ∷ []) = rw add-one (take-suc-set table i mark k) in
      rw (grown, same, ← n) (sym (in_order_turn (mark_of tables) (length starts - i) i (take i table) (omega arith)) ∙ inv)

  pub all_marked : (i : ℕ) (table : List ℕ) → i ≤ length starts → length starts ≤ i
      → in_order (mark_of tables) (length starts - i) i (take i table) ≡ marks tables → take (length starts) table ≡ marks tables
  all_marked i table h k inv =
      let n : length starts ≡ i = omega arith in
      rw n (sym (in_order_none (mark_of tables) (length starts - i) i (take i table) (omega arith)) ∙ inv)
