-- A loop over a table, whatever its records: where it stands, what a turn makes of that, and what it leaves and answers in the end.
use Prim.Native.Nat.{ℕ, ◌+◌, ◌≤◌, ◌<◌}
use mathlib.Core.Path.{◌≡◌, sym, ap, ap₂, ◌∙◌}
use mathlib.Core.List.{List, [], ◌∷◌, ◌++◌, map}
use native.Mathlib.Omega.{arith}
use native.Mathlib.Numerals.{add-one}
use lib.ListN.{length, take, drop, set, length-drop, take-append-drop}
use lib.Seq.{take-suc-set, length-take-le}
use Rattle.local_format.specs.Refusal.{Refusal}
use Rattle.local_format.specs.Out.{Out, ok, refused, at_offset, held}
use Rattle.local_format.proofs.OutLaws.{bind_ok, ok_same}
use Rattle.lent_table.specs.Lent.{laid, Front}
use Rattle.evr0_section.specs.Rows.{Row, Rows, rows}
use Rattle.evr0_section.specs.Proof.{Settled, Unowned}
use Rattle.local_format.proofs.Each.{each_ok, each_refused}
use Rattle.evr0_section.proofs.Inside.{Inside}
use Rattle.evr0_section.proofs.Progress.{Progress, Done, turn, refused_at, ended}
use Rattle.evr0_tables.specs.Maps.{kept_in, Noted, noted_in, asked, next_in, starts_in, owned_in}
use Rattle.evr0_tables.proofs.RowLaws.{kept_read, kept_refused}

module _ {A S : Type 0} (row : S → List ℕ → Out (Row A S)) (p : List ℕ) (count at : ℕ) (first : S) where
  -- i records are read, which start at the places xs
  pub record Stands (i place : ℕ) (state : S) (xs : List ℕ) : Type 0 where
    pub few : i ≤ count
    pub within : place ≤ length p
    pub done : Progress row (λ e. e.start) p count at first i place state xs

-- a sum that fits is not held
pub held_sum : (base at : ℕ) → base + at ≤ 18446744073709551615 → held base at ≡ base + at
unfolding held
held_sum base at h = omega arith

-- a number was stored past the first i
pub one_more : (table : List ℕ) (i n : ℕ) → i < length table → take (i + 1) (set table i n) ≡ take i table ++ (n ∷ [])
one_more table i n h = rw (add-one i) (take-suc-set table i n h)

module _ {A S : Type 0} {row : S → List ℕ → Out (Row A S)} {p : List ℕ} {count at : ℕ} {first : S} where
  module _ {i place : ℕ} {state : S} {xs : List ℕ} (s : Stands row p count at first i place state xs) where
    -- ---- A turn
    module _ (inside : Inside (drop place p) (row state (drop place p))) (h : i < count) where
      pub advance : {n : ℕ} {v : S} → kept_in (row state (drop place p)) ≡ ok (record { size = n; state = v })
          → Stands row p count at first (i + 1) (place + n) v (xs ++ (place ∷ []))
      advance {n} {v} e =
          let r = kept_read (row state (drop place p)) (record { size = n; state = v }) e in
          let f = each_ok inside r.1 in
          record {
            few = omega arith;
            within = omega (arith, s.within, length-drop place p, r.2);
            done = rw (r.2, r.3) at (turn row (λ e. e.start) p count at first i place state xs s.done h r.0 r.1);
          }

      -- the refusal of the record at the place reached is the table's
      pub stop : {q : Refusal} → kept_in (row state (drop place p)) ≡ refused q → length p ≤ 18446744073709551615
          → rows row count first p at ≡ refused (at_offset q (held place q.offset))
      stop {q} e l =
          let r = kept_refused (row state (drop place p)) q e in
          let f = (each_refused inside r).offset in
          let k = held_sum place q.offset (omega (arith, s.within, length-drop place p)) in
          refused_at row (λ e. e.start) p count at first i place state xs s.done h q r ∙ rw k

    -- ---- The end
    module _ (h : count ≤ i) where
      all : Done row (λ e. e.start) p count at first place state xs
      all = ended row (λ e. e.start) p count at first i place state xs s.done h

      pub read_next : ok place ≡ next_in (rows row count first p at)
      read_next = sym (ap next_in all.is ∙ ap (λ (n : ℕ). ok n) all.next)

      pub read_front : (starts : List ℕ) → xs ≡ take i starts → count ≤ length starts → Front (starts_in (rows row count first p at)) starts
      read_front starts k l =
          let few = s.few in
          let f : starts_in (rows row count first p at) ≡ take i starts = ap starts_in all.is ∙ all.noted ∙ k in
          let m : length (take i starts) ≡ i = length-take-le i starts (omega arith) in
          rw (f, m)

  -- the start was stored
  pub stored : (starts : List ℕ) (i place : ℕ) {next : ℕ} {state : S} → Stands row p count at first (i + 1) next state (take i starts ++ (place ∷ []))
      → i < length starts → Stands row p count at first (i + 1) next state (take (i + 1) (set starts i place))
  stored starts i place s h = rw (one_more starts i place h) s

pub refused_front : {A S : Type 0} {x : Out (Rows A S)} {q : Refusal} (table : List ℕ) → x ≡ refused q → Front (starts_in x) table
refused_front table e = rw e

-- ---- The proofs
module _ {row : Unowned → List ℕ → Out (Row Settled Unowned)} {p : List ℕ} {count at : ℕ} {first : Unowned} where
  -- one more, with the polarity that its rule asks
  pub noted : {i place : ℕ} {state : Unowned} {xs : List ℕ} → Progress row asked p count at first i place state xs → i < count → {n : Noted}
      → noted_in (row state (drop place p)) ≡ ok n
      → Progress row asked p count at first (i + 1) (place + n.kept.size) n.kept.state (xs ++ (n.polarity ∷ []))
  noted {i} {place} {state} {xs} d h e =
      let r = bind_ok (row state (drop place p)) _ e in
      rw (← ok_same r.2) (turn row asked p count at first i place state xs d h r.0 r.1)

  -- the end, with what is then unowned
  pub read_owned : {i place : ℕ} {state : Unowned} {xs : List ℕ} → Stands row p count at first i place state xs → count ≤ i
      → ok (record { unowned = state; next = place }) ≡ owned_in (rows row count first p at)
  read_owned {i} {place} {state} {xs} s h =
      let d = all s h in
      sym (ap owned_in d.is ∙ ap₂ (λ (u : Unowned) (n : ℕ). ok (record { unowned = u; next = n })) d.last d.next)

  -- the polarities at the front of a table, past which it holds what it held
  pub asked_laid : {i place : ℕ} {state : Unowned} (before table : List ℕ) → Progress row asked p count at first i place state (take i table)
      → i ≡ count → drop count table ≡ drop count before → count ≤ length table → (t : Rows Settled Unowned) → rows row count first p at ≡ ok t
      → table ≡ laid (map asked t.entries) before
  asked_laid {i} {place} {state} before table d all rest h t e =
      let done = ended row asked p count at first i place state (take i table) d (omega arith) in
      let f : map asked t.entries ≡ take count table =
      ap (λ (r : Rows Settled Unowned). map asked r.entries) (ok_same (sym e ∙ done.is)) ∙ done.noted ∙ ap (λ (n : ℕ). take n table) all in
      let m : length (take count table) ≡ count = length-take-le count table h in
      rw (f, m, ← rest) (sym (take-append-drop count table))
