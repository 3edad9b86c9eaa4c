-- The section SIG0: what a reader answers of it, and that the families of an accepted block are its bytes at their place.
use mathlib.Core.Path.{◌≡◌, refl, ap, sym, ◌∙◌}
use Prim.Native.Nat.{ℕ, zero, suc, ◌+◌, ◌≤◌, ◌<◌, min}
use native.Mathlib.Omega.{arith}
use native.Mathlib.Numerals.{add-one}
use mathlib.Core.Bool.{◌&&◌}
use mathlib.Core.List.{List, map}
use lib.ListN.{length, get_or, take, length-map, length-take}
use lib.Dec.{leb}
use lib.Seq.{take_all, drop-cons, get_or-take}
use Rattle.local_format.specs.Refusal.{Refusal}
use Rattle.local_format.specs.Out.{Out, ok, refused}
use Rattle.local_format.specs.Field.{field, le}
use Rattle.local_format.specs.Text.{bytes_at}
use Rattle.local_format.proofs.OutLaws.{never, refused_same, ok_same, bind_ok, checked_ok}
use borrow.Author.Tests.{le-leb}
use Rattle.local_format.proofs.FieldLaws.{field_ok, field_there, le_1}
use Rattle.semcode_records.specs.Records.{Taken, taken, Table, records, ends}
use Rattle.semcode_records.proofs.RecordsLaws.{as_many, ends_before}
use Rattle.semcode_decode.specs.Block.{Rooms, Block, family_at, block_of}
use Rattle.semcode_decode.specs.Layout.{Layout, layout, extent, families_of, block_families}
use Rattle.semcode_decode.proofs.BlockLaws.{layout_ok}
use Rattle.semcode_decode.proofs.ReadLaws.{tables_read}

-- ---- A reader's answer
pub extent_refused : {A : Type 0} (x : Out (Table A)) {r : Refusal} → ends x ≡ refused r → extent x ≡ refused r
extent_refused (ok t) e = absurd (never (sym e))
extent_refused (refused q) e = ap refused (refused_same e)

-- ---- The families are bytes
module _ (s : List ℕ) where
  pub family_is : (at : ℕ) (t : Taken ℕ) → family_at s at ≡ ok t → (t.value ≡ get_or s at 0) × (t.next ≡ at + 1) × (at < length s)
  unfolding family_at le
  family_is at t e =
      let (g, f, e1) = bind_ok (field 72 1 s at) _ e in
      let (c, e2) = checked_ok (leb 1 g.value && leb g.value 15) 72 at _ e1 in
      let w = field_ok 72 1 s at f in
      rw (← ok_same e2) (omega arith, w.0, omega arith)

  family_there : (at : ℕ) → at < length s → 1 ≤ get_or s at 0 → get_or s at 0 ≤ 15 → family_at s at ≡ taken (le 1 s at) (at + 1)
  unfolding family_at
  family_there at h l m =
      let e = le_1 s at in
      rw (field_there 72 1 s at (omega arith), le-leb 1 (le 1 s at) (omega arith), le-leb (le 1 s at) 15 (omega arith)) refl

  -- where all are there, they end behind the last
  pub families_whole : (count at : ℕ) → at + count ≤ length s
      → ((i : ℕ) → i < count → (1 ≤ get_or s (at + i) 0) × (get_or s (at + i) 0 ≤ 15)) → ends (records (family_at s) count at) ≡ ok (at + count)
  unfolding records
  families_whole zero at h f = let e : at ≡ at + 0 = omega arith in ap ok e
  families_whole (suc count) at h f =
      let here : at + 0 ≡ at = omega arith in
      let (l, m) = rw here at (f 0 (omega arith)) in
      let e : at + 1 + count ≡ at + suc count = omega arith in
      let rest = families_whole count (at + 1) (omega arith)
      (λ i k. let n : at + suc i ≡ at + 1 + i = omega arith in rw n at (f (suc i) (omega arith))) in
      rw (family_there at (omega arith) l m) (ends_before _ (records (family_at s) count (at + 1)) ∙ rest ∙ ap ok e)

-- of the first bytes of a list, also where they are read in the whole
module _ (u : List ℕ) (n : ℕ) where
  families_are : (count at : ℕ) (t : Table ℕ) → records (family_at (take n u)) count at ≡ ok t → map (λ e. e.value) t.entries ≡ bytes_at u at count
  unfolding records
  families_are zero at t e = rw (← ok_same e)
  families_are (suc count) at t e =
      let (first, f, e1) = bind_ok (family_at (take n u) at) _ e in
      let (rest, g, e2) = bind_ok (records (family_at (take n u)) count first.next) _ e1 in
      let w = family_is (take n u) at first f in
      let l : at < min n (length u) = rw (length-take n u) at w.2 in
      let h = families_are count first.next rest g in
      rw (← ok_same e2) (rw (h, w.0, w.1, get_or-take n u at 0 (omega arith), drop-cons u at 0 (omega arith), add-one))

  -- as many as the lent table has entries, so a copy leaves none out
  pub block_families_lem : (revision : ℕ) (rooms : Rooms) {b : Block} → block_of revision rooms (take n u) ≡ ok b
      → take rooms.families (bytes_at u b.signature.table.start (length b.signature.table.entries)) ≡ families_of b
  block_families_lem revision rooms {b} h =
      let w = tables_read revision rooms (take n u) h in
      let (count, r) = w.3 in
      let many = (as_many (family_at (take n u)) count b.signature.table.start r).0 in
      let are = families_are count b.signature.table.start b.signature.table r in
      rw (many, ← are) (take_all rooms.families (families_of b) (rw length-map w.4))

pub families_copied : (revision : ℕ) (rooms : Rooms) (s : List ℕ) {l : Layout} → layout (block_of revision rooms s) ≡ ok l
    → take rooms.families (bytes_at s l.families_start l.families) ≡ block_families (block_of revision rooms s)
families_copied revision rooms s e =
    let (b, is, same) = layout_ok (block_of revision rooms s) e in
    let read : block_of revision rooms (take (length s) s) ≡ ok b = rw (take_all (length s) s (omega arith)) is in
    rw (← same) (block_families_lem s (length s) revision rooms read ∙ sym (ap block_families is))
