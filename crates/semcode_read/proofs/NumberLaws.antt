-- A record by its number: the block's answer where it is refused, the record read again at its start, or 62.
use mathlib.Core.Path.{◌≡◌, refl, ap, sym, ◌∙◌}
use Prim.Native.Nat.{ℕ, ◌+◌, ◌*◌, ◌≤◌, ◌<◌}
use native.Mathlib.Omega.{arith}
use mathlib.Core.List.{List}
use lib.ListN.{length, get_or, length-map}
use Rattle.local_format.specs.Refusal.{Refusal}
use Rattle.local_format.specs.Out.{Out, ok, refused, refuse}
use Rattle.local_format.specs.Text.{Span, string_at}
use Rattle.local_format.specs.Number.{numbered, choose}
use Rattle.local_format.proofs.OutLaws.{ok_same, bind_ok}
use Rattle.semcode_records.specs.Records.{Taken, taken, Entry}
use Rattle.semcode_records.specs.Symbol.{symbol_at}
use Rattle.semcode_records.specs.Path.{path_at, head_at}
use Rattle.semcode_records.proofs.RecordsLaws.{as_many}
use Rattle.semcode_records.proofs.SymbolLaws.{symbols_whole}
use Rattle.semcode_decode.specs.Block.{Rooms, Block, string_record, block_of}
use Rattle.semcode_decode.specs.Layout.{layout, string_starts, path_starts}
use Rattle.semcode_decode.specs.Number.{string_number, symbol_number, path_number, block_in, taken_in, text_in, head_in}
use Rattle.semcode_decode.proofs.BlockLaws.{layout_refused}
use Rattle.semcode_decode.proofs.ReadLaws.{there, tables_read, symbol_start}

-- ---- A choice
module _ {A : Type 0} (pick : Block → Out (Entry A)) (x : Out Block) where
  pub block_refused : {r : Refusal} → layout x ≡ refused r → (choose pick x ≡ refused r) × (block_in (choose pick x) ≡ x)
  block_refused e = let h = layout_refused x e in rw h (refl, refl)

  pub picked : {b : Block} {e : Entry A} → x ≡ ok b → pick b ≡ ok e
      → (choose pick x ≡ ok (record { decoded = b; value = e })) × (block_in (choose pick x) ≡ x)
  picked h k = rw (h, k) (refl, refl)

  pub not_picked : {b : Block} → x ≡ ok b → pick b ≡ refuse 62 0 → choose pick x ≡ refuse 62 0
  not_picked h k = rw (h, k)

string_again : (s : List ℕ) (at : ℕ) {text : Span} {next : ℕ} → string_record s at ≡ taken text next → string_at s at ≡ ok text
string_again s at h =
    let p = bind_ok (string_at s at) _ h in
    p.1 ∙ ap ok (ap (λ (t : Taken Span). t.value) (ok_same p.2))

-- ---- Strings, symbols and paths of an accepted block
module _ (revision : ℕ) (rooms : Rooms) (s : List ℕ) (x : Out Block) (b : Block) (is : x ≡ ok b) (read : block_of revision rooms s ≡ ok b) (n : ℕ) where
  pub string_found : n < length b.strings.entries
      → (text_in (string_number n x) ≡ string_at s (get_or (string_starts x) n 0)) × (block_in (string_number n x) ≡ x) × (n < length (string_starts x))
  unfolding string_number
  string_found h =
      let r = (tables_read revision rooms s read).0 in
      let t = there (string_record s) r.0 b.strings.start n b.strings r.1 h in
      let c = picked (λ b. numbered n b.strings.entries) x is t.found in
      (rw (c.0, is, t.start, string_again s t.entry.start t.again), c.1, rw (is, length-map) h)

  pub symbol_found : n < length b.debug.table.entries
      → (taken_in (symbol_number n x) ≡ symbol_at s (b.debug.table.start + 10 * n))
      × (block_in (symbol_number n x) ≡ x)
      × (b.debug.table.start + 10 * n + 10 ≤ length s)
  unfolding symbol_number
  symbol_found h =
      let r = (tables_read revision rooms s read).1 in
      let at = b.debug.table.start in
      let many = (as_many (symbol_at s) r.0 at r.1).0 in
      let within = symbol_start s r.0 at n r.1 (omega arith) in
      let t = there (symbol_at s) r.0 at n b.debug.table r.1 h in
      let e : t.entry.start ≡ at + 10 * n = ok_same (sym t.passed ∙ symbols_whole s n at (omega arith)) in
      let c = picked (λ b. numbered n b.debug.table.entries) x is t.found in
      (rw (c.0, ← e, t.again), c.1, within)

  pub path_found : n < length b.ownership.table.entries
      → (head_in (path_number n x) ≡ head_at revision s (get_or (path_starts x) n 0)) × (block_in (path_number n x) ≡ x) × (n < length (path_starts x))
  unfolding path_number head_at
  path_found h =
      let r = (tables_read revision rooms s read).2 in
      let t = there (path_at revision s) r.0 b.ownership.table.start n b.ownership.table r.1 h in
      let c = picked (λ b. numbered n b.ownership.table.entries) x is t.found in
      (rw (c.0, is, t.start, t.again), c.1, rw (is, length-map) h)
