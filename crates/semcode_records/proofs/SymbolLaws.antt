-- Debug symbols have 10 bytes each, so where so many stand is known without reading them.
use mathlib.Core.Path.{◌≡◌, refl, ap, ◌∙◌}
use Prim.Native.Nat.{ℕ, zero, suc, ◌+◌, ◌-◌, ◌*◌, ◌≤◌, ◌<◌}
use native.Mathlib.Omega.{arith}
use mathlib.Core.List.{List}
use lib.ListN.{length}
use Rattle.local_format.specs.Out.{Out, ok, refused}
use Rattle.local_format.specs.Maps.{refusal_of}
use Rattle.local_format.specs.Field.{le, field}
use Rattle.local_format.proofs.OutLaws.{bind_ok}
use Rattle.local_format.proofs.FieldLaws.{field_ok, field_there}
use Rattle.semcode_records.specs.Records.{Taken, taken, records, ends}
use Rattle.semcode_records.specs.Symbol.{Symbol, symbol_at}
use Rattle.semcode_records.proofs.RecordsLaws.{ends_before}

module _ (s : List ℕ) where
  -- the symbol of 10 bytes
  abbrev symbol_there : ℕ → Symbol
  symbol_there at = record { pc = le 4 s at; line = le 4 s (at + 4); column = le 2 s (at + 4 + 4) }

  pub symbol_there_lem : (at : ℕ) → at + 10 ≤ length s → symbol_at s at ≡ taken (symbol_there at) (at + 10)
  unfolding symbol_at
  symbol_there_lem at h =
      let p : at + 4 ≤ length s = omega arith in
      let q : at + 4 + 4 ≤ length s = omega arith in
      let r : at + 4 + 4 + 2 ≤ length s = omega arith in
      let n : at + 4 + 4 + 2 ≡ at + 10 = omega arith in
      rw (field_there 37 4 s at p, field_there 38 4 s (at + 4) q, field_there 39 2 s (at + 4 + 4) r, n)

  -- one that is read is whole
  pub symbol_within : (at : ℕ) {t : Taken Symbol} → symbol_at s at ≡ ok t → at + 10 ≤ length s
  unfolding symbol_at
  symbol_within at e =
      let p = bind_ok (field 37 4 s at) _ e in
      let l = bind_ok (field 38 4 s p.0.next) _ p.2 in
      let c = bind_ok (field 39 2 s l.0.next) _ l.2 in
      let hp = field_ok 37 4 s at p.1 in
      let hl = field_ok 38 4 s p.0.next l.1 in
      let hc = field_ok 39 2 s l.0.next c.1 in
      omega arith

  symbol_cut : (at : ℕ) → length s < at + 10 → symbol_at s at ≡ refused (refusal_of (symbol_at s at))
  symbol_cut at h = go (symbol_at s at) refl
    where
      go : (x : Out (Taken Symbol)) → symbol_at s at ≡ x → x ≡ refused (refusal_of x)
      go (ok t) e = let w = symbol_within at e in absurd (omega arith)
      go (refused r) e = refl

  -- all are whole
  pub symbols_whole : (count at : ℕ) → 10 * count ≤ length s - at → ends (records (symbol_at s) count at) ≡ ok (at + 10 * count)
  unfolding records
  symbols_whole zero at h = let e : at ≡ at + 10 * 0 = omega arith in ap ok e
  symbols_whole (suc count) at h =
      let e : at + 10 + 10 * count ≡ at + 10 * suc count = omega arith in
      let p : at + 10 ≤ length s = omega arith in
      let q : 10 * count ≤ length s - (at + 10) = omega arith in
      rw (symbol_there_lem at p) (ends_before _ (records (symbol_at s) count (at + 10)) ∙ symbols_whole count (at + 10) q ∙ ap ok e)

  -- the first that is cut comes after k whole ones
  pub symbols_cut : (k count at : ℕ) → 10 * k ≤ length s - at → length s < at + 10 * k + 10 → k < count
      → records (symbol_at s) count at ≡ refused (refusal_of (symbol_at s (at + 10 * k)))
  unfolding records
  symbols_cut zero (suc count) at h c l =
      let e : at + 10 * 0 ≡ at = omega arith in
      rw (e, symbol_cut at (omega arith))
  symbols_cut (suc k) (suc count) at h c l =
      let e : at + 10 * suc k ≡ at + 10 + 10 * k = omega arith in
      let p : at + 10 ≤ length s = omega arith in
      let q : 10 * k ≤ length s - (at + 10) = omega arith in
      let r : length s < at + 10 + 10 * k + 10 = omega arith in
      let m : k < count = omega arith in
      rw (e, symbol_there_lem at p, symbols_cut k count (at + 10) q r m)
  symbols_cut k zero at h c l = absurd (omega arith)
