-- What a block's layout says of its symbols: so many lie in the block from that place on, they fit the lent list, and they are the
-- block's; a refused block has none.
use mathlib.Core.Path.{◌≡◌, refl}
use Prim.Native.Nat.{ℕ, zero, suc, ◌+◌, ◌-◌, ◌*◌, ◌≤◌, zero-le}
use native.Mathlib.Omega.{arith}
use mathlib.Core.Bool.{Bool, true, false, cond}
use mathlib.Core.List.{List}
use lib.Dec.{leb}
use lib.ListN.{length}
use borrow.Author.Tests.{leb-true}
use Rattle.local_format.specs.Out.{Out, ok, refused, based, ◌>>=◌}
use Rattle.local_format.specs.Field.{field}
use Rattle.local_format.specs.Tag.{tag_at, dbg0, own0}
use Rattle.local_format.proofs.OutLaws.{ok_same, bind_ok, checked_ok}
use Rattle.semcode_records.specs.Records.{Table, no_records, records}
use Rattle.semcode_records.specs.Symbol.{Symbol, symbol_at}
use Rattle.semcode_records.proofs.RecordsLaws.{none_left_lem, as_many}
use Rattle.semcode_decode.specs.Block.{Rooms, string_table, symbol_table, path_table, Section, section_at, signature_at, Block, block_of, decode_block}
use Rattle.semcode_decode.specs.Layout.{Layout, layout}
use Rattle.semcode_decode.proofs.ReadLaws.{tables_read, symbol_start}
use Rattle.semcode_symbols.specs.Symbols.{block_symbols, symbol_count, symbols_start, Lies}

-- ---- The symbols fit the lent list, or else 61
module _ (s : List ℕ) (entries at : ℕ) where
  table_room : (at : ℕ) (t : Table Symbol) → symbol_table s entries at ≡ ok t → length t.entries ≤ entries
  unfolding symbol_table
  table_room at t h =
      let c = bind_ok (field 35 2 s at) _ h in
      let a = checked_ok (leb c.0.value 8192) 36 c.0.next _ c.2 in
      let b = checked_ok (leb c.0.value entries) 61 c.0.next _ a.1 in
      let many = (as_many (symbol_at s) c.0.value c.0.next b.1).0 in
      let fits = leb-true c.0.value entries b.0 in
      omega (arith, many, fits)

  section_room : (x : Section Symbol) → section_at dbg0 (symbol_table s entries) s at ≡ ok x → length x.table.entries ≤ entries
  unfolding section_at
  section_room x h = go (tag_at dbg0 s at) h
    where
      go : (b : Bool)
          → cond b (symbol_table s entries (at + length dbg0) >>= λ t. ok (record { found = true; table = t }))
          (ok (record { found = false; table = no_records at })) ≡ ok x
          → length x.table.entries ≤ entries
      go true k =
          let p = bind_ok (symbol_table s entries (at + length dbg0)) _ k in
          rw (← ok_same p.2) (table_room (at + length dbg0) p.0 p.1)
      go false k = rw (← ok_same k) zero-le

module _ (revision : ℕ) (rooms : Rooms) (s : List ℕ) where
  block_room : {b : Block} → block_of revision rooms s ≡ ok b → length b.debug.table.entries ≤ rooms.symbols
  unfolding block_of
  block_room h =
      let t = bind_ok (string_table s rooms.strings 0) _ h in
      let d = bind_ok (section_at dbg0 (symbol_table s rooms.symbols) s t.0.end) _ t.2 in
      let o = bind_ok (section_at own0 (path_table revision s rooms.paths) s d.0.table.end) _ d.2 in
      let g = bind_ok (signature_at revision o.0.found s rooms.families o.0.table.end) _ o.2 in
      rw (← ok_same g.2) (section_room s rooms.symbols t.0.end d.0 d.1)

  -- all of so many symbols lie in the bytes
  within : (count at : ℕ) {t : Table Symbol} → records (symbol_at s) count at ≡ ok t → 10 * count ≤ length s - at
  within zero at h = zero-le
  within (suc count) at h = let last = symbol_start s (suc count) at count h (omega arith) in omega (arith, last)

  told_of : (base : ℕ) (x : Out Block) → block_of revision rooms s ≡ x
      → Lies s rooms.symbols (symbols_start (layout (based base x))) (symbol_count (layout (based base x)))
      (block_symbols (decode_block base revision rooms s))
  told_of base (ok b) h =
      let r = (tables_read revision rooms s h).1 in
      let t = b.debug.table in
      let many = (as_many (symbol_at s) r.0 t.start r.1).0 in
      let read : records (symbol_at s) (length t.entries) t.start ≡ ok t = rw many r.1 in
      record {
        inside = within (length t.entries) t.start read;
        fit = block_room h;
        are = rw (read, h);
      }
  told_of base (refused r) h = record { inside = zero-le; fit = zero-le; are = rw (none_left_lem (symbol_at s) 0, h) }

  pub as_told : (base : ℕ) {l : Out Layout} → l ≡ layout (decode_block base revision rooms s)
      → Lies s rooms.symbols (symbols_start l) (symbol_count l) (block_symbols (decode_block base revision rooms s))
  as_told base e = rw e (told_of base (block_of revision rooms s) refl)
