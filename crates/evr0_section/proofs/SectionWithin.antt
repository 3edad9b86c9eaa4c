-- Where and with which number reading a payload's tables refuses: each step of the reading ends within the payload, and after 13 the sums of
-- 14 and 15 are within their limits for every payload that a section can have.
use Prim.Native.Nat.{ℕ, zero, suc, ◌+◌, ◌-◌, ◌*◌, ◌≤◌, ◌<◌}
use mathlib.Core.Path.{◌≡◌, refl}
use mathlib.Core.Bool.{Bool, true, false, cond, ◌&&◌}
use mathlib.Core.List.{List, [], ◌∷◌}
use native.Mathlib.Nat.{le_refl}
use native.Mathlib.Omega.{arith}
use lib.Dec.{eqb, leb}
use lib.ListN.{length, drop, length-drop}
use borrow.Author.Tests.{leb-true, leb-false}
use Rattle.local_format.specs.Refusal.{Refusal}
use Rattle.local_format.specs.Out.{Out, ok}
use Rattle.local_format.specs.Text.{text_at}
use Rattle.local_format.proofs.Each.{Each, Refuses, Within, within, answers, each_ok, under, on, then, on_moved, on_check, on_passed, last_check, steps}
use Rattle.derivation.specs.Rule.{Rule}
use Rattle.evr0_section.specs.Rows.{Row, Rows, rows}
use Rattle.evr0_section.specs.Head.{Counts, Head, Room, digest_at, counts_at, head_of, listed, count_limits, within_limits, sizes, has_room}
use Rattle.evr0_section.specs.Head.{span_width, witness_size, witness_memory, check_counts, checked_head}
use Rattle.evr0_section.specs.Proposition.{first, proposition_row}
use Rattle.evr0_section.specs.Proof.{none_owned, proof_row}
use Rattle.evr0_section.specs.Witness.{witness_row, parent_row}
use Rattle.evr0_section.specs.Section.{rest_after, tables_after, tables_of}
use Rattle.evr0_section.proofs.Inside.{Inside, early, proposition_row_in, proof_row_in, witness_row_in, parent_row_in}

-- ---- A table

module _ {A S : Type 0} (row : S → List ℕ → Out (Row A S)) (row_in : (q : List ℕ) (s : S) → Inside q (row s q)) (p : List ℕ) where
  rows_in : (n : ℕ) (s : S) (at : ℕ) → at ≤ length p
      → Each (λ t. (at ≤ t.next) × (t.next ≤ length p)) (Within (length p) early) (rows row n s p at)
  unfolding rows
  rows_in zero s at h = answers (le_refl at, h)
  rows_in (suc n) s at h =
      let l = length-drop at p in
      on (on_moved at (row s (drop at p)) (row_in (drop at p) s) (λ r q. record { offset = omega (arith, q.offset); numbered = q.numbered })) λ r a.
      on (rows_in n r.state (at + r.size) (omega arith)) λ t b. answers (omega arith, b.1)

  pub rows_end : (n : ℕ) (s : S) (at : ℕ) {t : Rows A S} → at ≤ length p → rows row n s p at ≡ ok t → (at ≤ t.next) × (t.next ≤ length p)
  rows_end n s at h e = each_ok (rows_in n s at h) e

-- ---- The head

record HeadEnds (p : List ℕ) (h : Head) : Type 0 where
  counts : h.counts_at + 4 + 4 + 4 + 4 ≡ h.next
  inside : h.next ≤ length p

head_ends : (p : List ℕ) (h : Head) → h.counts_at + 4 + 4 + 4 + 4 ≡ h.next → h.next ≤ length p → HeadEnds p h
head_ends p h e l = record { counts = e; inside = l }

head_in : (p : List ℕ) → Each (HeadEnds p) (Within (length p) early) (head_of p)
unfolding head_of counts_at digest_at text_at early
head_in p = search (steps, head_ends) depth 60 fits 4000

pub head_end : (p : List ℕ) {h : Head} → head_of p ≡ ok h → (h.next ≤ length p) × (h.counts_at ≤ h.next)
head_end p e = let a = each_ok (head_in p) e in (a.inside, omega (arith, a.counts))

-- ---- The checks after the counts

-- where the records take at most n bytes, under either schema: what they take at least, and what 14 and 15 count for them
pub record Least (c : Counts) (schema n : ℕ) : Type 0 where
  pub bytes : sizes c 15 35 84 4 ≤ n
  pub memory : sizes c 40 64 (witness_memory schema) 4 ≤ 3 * n
  pub records : sizes c 1 1 1 1 ≤ n

pub least_sizes : (c : Counts) (schema n : ℕ) → sizes c 15 35 (witness_size (span_width schema)) 4 ≤ n → Least c schema n
unfolding sizes span_width witness_memory
least_sizes c schema n h = let a = go (eqb schema 2) h in record { bytes = a.0; memory = a.1; records = a.2 }
  where
    go : (wide : Bool) → sizes c 15 35 (witness_size (cond wide 8 4)) 4 ≤ n → (sizes c 15 35 84 4 ≤ n) × (sizes c 40 64 (cond wide 96 84) 4 ≤ 3 * n)
        × (sizes c 1 1 1 1 ≤ n)
    go true h = omega arith
    go false h = omega arith

-- the number of a refusal: 1 to 13 and 16 to 24; 14 and 15 past the longest payload alone; 61 where counts that 13 leaves have no room
pub data Numbered (room : Room) (len : ℕ) : ℕ → Type 0 where
  usual : {n : ℕ} → early n ≡ true → Numbered room len n
  long : {n : ℕ} → 4194304 < len → Numbered room len n
  short : (c : Counts) → sizes c 15 35 84 4 ≤ len → has_room room c ≡ false → Numbered room len 61

pub record Refused (room : Room) (p : List ℕ) (r : Refusal) : Type 0 where
  pub offset : r.offset ≤ length p
  pub number : Numbered room (length p) r.number

limits_in : (most : ℕ) (cs limits : List ℕ) (at : ℕ) → at + 4 * length cs ≤ most → Refuses (Within most early) (within_limits cs limits at)
unfolding within_limits early
limits_in most [] limits at h = answers tt
limits_in most (c ∷ cs) [] at h = answers tt
limits_in most (c ∷ cs) (limit ∷ limits) at h =
    on_check (leb c limit) 12 at _ (within most _ 12 at (omega arith) refl) (limits_in most cs limits (at + 4) (omega arith))

module _ (room : Room) (p : List ℕ) where
  soon : (r : Refusal) → Within (length p) early r → Refused room p r
  soon r w = record { offset = w.offset; number = usual w.numbered }

  checks_in : (h : Head) → HeadEnds p h → Refuses (Refused room p) (check_counts room p h)
  unfolding check_counts early
  checks_in h e =
      let inside = e.inside in
      let c : Counts = h.counts in
      let size : ℕ = witness_size (span_width h.schema) in
      let memory : ℕ = witness_memory h.schema in
      then (under (limits_in (length p) (listed c) count_limits h.counts_at (omega (arith, e.counts))) soon)
      (on_passed (leb (sizes c 15 35 size 4) (length p - h.next)) 13 h.next _ (λ f. record { offset = inside; number = usual refl }) λ f.
      let least = least_sizes c h.schema (length p) (omega (arith, leb-true (sizes c 15 35 size 4) (length p - h.next) f)) in
      on_passed (leb (length p + sizes c 40 64 memory 4) 16777216) 14 h.next _
      (λ g. record { offset = inside; number = long (omega (arith, least.memory, leb-false (length p + sizes c 40 64 memory 4) 16777216 g)) }) λ g.
      on_passed (leb (length p + sizes c 1 1 1 1) 8388608) 15 h.next _
      (λ g. record { offset = inside; number = long (omega (arith, least.records, leb-false (length p + sizes c 1 1 1 1) 8388608 g)) }) λ g.
      last_check (has_room room c) 61 h.next (λ g. record { offset = inside; number = short c least.bytes g }))

  checked_in : Each (HeadEnds p) (Refused room p) (checked_head room p)
  unfolding checked_head
  checked_in = on (under (head_in p) soon) λ h e. then (checks_in h e) (answers e)

-- ---- The tables

module _ (rules : List Rule) (p : List ℕ) where
  rest_in : (width : ℕ) (counts : Counts) (at : ℕ) → at ≤ length p → Refuses (Within (length p) early) (rest_after width counts p at)
  unfolding rest_after early
  rest_in width counts at h =
      on (rows_in (witness_row width counts) (λ q. witness_row_in q width counts) p counts.witnesses 0 at h) λ witnesses a.
      on (rows_in parent_row parent_row_in p counts.parents tt witnesses.next a.1) λ parents b.
      on_check (eqb parents.next (length p)) 24 parents.next _ (within (length p) _ 24 parents.next b.1 refl) (answers tt)

  four_in : (width : ℕ) (counts : Counts) (at : ℕ) → at ≤ length p → Refuses (Within (length p) early) (tables_after rules width counts p at)
  unfolding tables_after early
  four_in width counts at h =
      on (rows_in proposition_row proposition_row_in p counts.propositions first at h) λ propositions a.
      on (rows_in (proof_row rules counts) (λ q. proof_row_in q rules counts) p counts.proofs none_owned propositions.next a.1) λ proofs b.
      on_check (eqb proofs.state.witness counts.witnesses && eqb proofs.state.parent counts.parents) 22 proofs.next _
      (within (length p) _ 22 proofs.next b.1 refl)
      (on (rest_in width counts proofs.next b.1) λ rest c. answers tt)

  pub tables_refuse : (room : Room) → Refuses (Refused room p) (tables_of rules room p)
  unfolding tables_of
  tables_refuse room =
      on (checked_in room p) λ head a.
      on (under (four_in (span_width head.schema) head.counts head.next a.inside) (soon room p)) λ four b. answers tt
