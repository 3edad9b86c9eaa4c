-- Each table of an accepted block was read by its reader, so any of its records is read again at its start.
use mathlib.Core.Path.{◌≡◌, refl, ap, sym, ◌∙◌}
use Prim.Native.Nat.{ℕ, zero, suc, ◌+◌, ◌-◌, ◌*◌, ◌/◌, ◌≤◌, ◌<◌}
use native.Mathlib.Omega.{arith}
use mathlib.Core.Bool.{Bool, true, false, cond}
use mathlib.Core.List.{List}
use lib.Dec.{leb}
use lib.ListN.{length, get_or}
use borrow.Author.Tests.{leb-true, leb-false}
use Rattle.local_format.specs.Refusal as kind
use Rattle.local_format.specs.Out.{Out, ok, check, check_as, ◌>>=◌, ◌>>◌}
use Rattle.local_format.specs.Field.{field}
use Rattle.local_format.specs.Tag.{tag_at, dbg0, own0, sig0}
use Rattle.local_format.specs.Text.{Span}
use Rattle.local_format.specs.Number.{numbered}
use Rattle.local_format.proofs.OutLaws.{never, ok_same, bind_ok, checked_ok}
use Rattle.semcode_records.specs.Records.{Taken, taken, Entry, Table, no_records, before, records, ends}
use Rattle.semcode_records.specs.Symbol.{Symbol, symbol_at}
use Rattle.semcode_records.specs.Path.{Path, path_at}
use Rattle.semcode_records.proofs.RecordsLaws.{none_left_lem, ends_before, as_many}
use Rattle.semcode_records.proofs.SymbolLaws.{symbols_cut}
use Rattle.semcode_decode.specs.Block.{
  Rooms,
  string_record,
  string_table,
  symbol_table,
  path_table,
  Section,
  section_at,
  family_at,
  family_table,
  signature_at,
  Block,
  block_of,
}
use Rattle.semcode_decode.specs.Layout.{starts_of}

-- ---- A record of a table

-- a record in its table: its number finds it, its start stands among the starts, and there it is read again
pub record There {A : Type 0} (read : ℕ → Out (Taken A)) (at i : ℕ) (t : Table A) : Type 0 where
  pub entry : Entry A
  pub found : numbered i t.entries ≡ ok entry
  pub start : get_or (starts_of t) i 0 ≡ entry.start
  pub again : read entry.start ≡ taken entry.value entry.next
  pub passed : ends (records read i at) ≡ ok entry.start

module _ {A : Type 0} (read : ℕ → Out (Taken A)) where
  -- a table with a first record
  record Split (count at : ℕ) (t : Table A) : Type 0 where
    first : Taken A
    is_first : read at ≡ ok first
    rest : Table A
    is_rest : records read count first.next ≡ ok rest
    both : before (record { start = at; value = first.value; next = first.next }) rest ≡ t

  split : (count at : ℕ) (t : Table A) → records read (suc count) at ≡ ok t → Split count at t
  unfolding records
  split count at t h =
      let p = bind_ok (read at) _ h in
      let q = bind_ok (records read count p.0.next) _ p.2 in
      record { first = p.0; is_first = p.1; rest = q.0; is_rest = q.1; both = ok_same q.2 }

  none : (at i : ℕ) (t : Table A) → records read 0 at ≡ ok t → i < length t.entries → ⊥
  unfolding records
  none at i t h l = let z : i < 0 = rw (← ok_same h) at l in omega arith

  first_there : (count at : ℕ) (t : Table A) → Split count at t → There read at 0 t
  unfolding records numbered
  first_there count at t x =
      rw (← x.both)
      (record {
        entry = record { start = at; value = x.first.value; next = x.first.next };
        found = refl;
        start = refl;
        again = x.is_first;
        passed = refl;
      })

  later_there : (count at i : ℕ) (t : Table A) (x : Split count at t) → There read x.first.next i x.rest → There read at (suc i) t
  unfolding records numbered
  later_there count at i t x y =
      rw (← x.both)
      (record {
        entry = y.entry;
        found = y.found;
        start = y.start;
        again = y.again;
        passed = rw x.is_first (ends_before _ (records read i x.first.next) ∙ y.passed);
      })

  later_within : (count at i : ℕ) (t : Table A) (x : Split count at t) → suc i < length t.entries → i < length x.rest.entries
  later_within count at i t x l = let w : suc i < suc (length x.rest.entries) = rw (← x.both) at l in omega arith

  pub there : (count at i : ℕ) (t : Table A) → records read count at ≡ ok t → i < length t.entries → There read at i t
  there zero at i t h l = absurd (none at i t h l)
  there (suc count) at zero t h l = first_there count at t (split count at t h)
  there (suc count) at (suc i) t h l =
      let x = split count at t h in
      later_there count at i t x (there count x.first.next i x.rest x.is_rest (later_within count at i t x l))

-- ---- The tables of a block

-- a table that a reader read
abbrev pub ReadBy : {A : Type 0} → (ℕ → Out (Taken A)) → Table A → Type 0
ReadBy read t = (count : ℕ) × (records read count t.start ≡ ok t)

module _ {A : Type 0} (read : ℕ → Out (Taken A)) where
  read_by : (count at : ℕ) {t : Table A} → records read count at ≡ ok t → ReadBy read t
  read_by count at h = (count, ap (records read count) (as_many read count at h).1 ∙ h)

  pub section_read : (tag : List ℕ) (table_at : ℕ → Out (Table A)) (s : List ℕ) (at : ℕ) (x : Section A)
      → ((at : ℕ) (t : Table A) → table_at at ≡ ok t → ReadBy read t) → section_at tag table_at s at ≡ ok x → ReadBy read x.table
  unfolding section_at
  section_read tag table_at s at x each h = go (tag_at tag s at) h
    where
      go : (b : Bool) → cond b (table_at (at + length tag) >>= λ t. ok (record { found = true; table = t }))
          (ok (record { found = false; table = no_records at })) ≡ ok x
          → ReadBy read x.table
      go true k = let p = bind_ok (table_at (at + length tag)) _ k in rw (← ok_same p.2) (each (at + length tag) p.0 p.1)
      go false k = rw (← ok_same k) (0, none_left_lem read at)

module _ (revision : ℕ) (rooms : Rooms) (s : List ℕ) where
  pub strings_read : (entries at : ℕ) (t : Table Span) → string_table s entries at ≡ ok t → ReadBy (string_record s) t
  unfolding string_table
  strings_read entries at t h =
      let c = bind_ok (field 30 2 s at) _ h in
      let a = checked_ok (leb c.0.value 256) 31 c.0.next _ c.2 in
      let b = checked_ok (leb c.0.value entries) 61 c.0.next _ a.1 in
      read_by (string_record s) c.0.value c.0.next b.1

  pub symbols_read : (entries at : ℕ) (t : Table Symbol) → symbol_table s entries at ≡ ok t → ReadBy (symbol_at s) t
  unfolding symbol_table
  symbols_read entries at t h =
      let c = bind_ok (field 35 2 s at) _ h in
      let a = checked_ok (leb c.0.value 8192) 36 c.0.next _ c.2 in
      let b = checked_ok (leb c.0.value entries) 61 c.0.next _ a.1 in
      read_by (symbol_at s) c.0.value c.0.next b.1

  pub paths_read : (entries at : ℕ) (t : Table Path) → path_table revision s entries at ≡ ok t → ReadBy (path_at revision s) t
  unfolding path_table
  paths_read entries at t h =
      let c = bind_ok (field 40 2 s at) _ h in
      let b = checked_ok (leb c.0.value entries) 61 c.0.next _ c.2 in
      read_by (path_at revision s) c.0.value c.0.next b.1

  families_read : (entries at : ℕ) (t : Table ℕ) → family_table s entries at ≡ ok t → ReadBy (family_at s) t × (length t.entries ≤ entries)
  unfolding family_table
  families_read entries at t h =
      let (count, c, h1) = bind_ok (field 72 2 s at) _ h in
      let (a, h2) = checked_ok (leb count.value 4096) 73 count.next _ h1 in
      let (b, h3) = checked_ok (leb count.value entries) 61 count.next _ h2 in
      let l : count.value ≤ entries = leb-true count.value entries b in
      (read_by (family_at s) count.value count.next h3, rw (as_many (family_at s) count.value count.next h3).0 l)

  pub signature_read : (ownership : Bool) (entries at : ℕ) (x : Section ℕ) → signature_at revision ownership s entries at ≡ ok x
      → ReadBy (family_at s) x.table × (length x.table.entries ≤ entries)
  unfolding signature_at
  signature_read ownership entries at x h = go (leb 20 revision) ownership h
    where
      go : (b o : Bool)
          → cond b
          (check_as kind.ownership o 71 at
          >> (check (tag_at sig0 s at) 71 at >> (family_table s entries (at + length sig0) >>= λ t. ok (record { found = true; table = t }))))
          (ok (record { found = false; table = no_records at }))
          ≡ ok x
          → ReadBy (family_at s) x.table × (length x.table.entries ≤ entries)
      go true true k =
          let (a, k1) = checked_ok (tag_at sig0 s at) 71 at _ k in
          let (t, f, k2) = bind_ok (family_table s entries (at + length sig0)) _ k1 in
          rw (← ok_same k2) (families_read entries (at + length sig0) t f)
      go true false k = absurd (never k)
      go false o k = rw (← ok_same k) ((0, none_left_lem (family_at s) at), omega arith)

  pub tables_read : {b : Block} → block_of revision rooms s ≡ ok b
      → ReadBy (string_record s) b.strings
      × ReadBy (symbol_at s) b.debug.table
      × ReadBy (path_at revision s) b.ownership.table
      × ReadBy (family_at s) b.signature.table
      × (length b.signature.table.entries ≤ rooms.families)
  unfolding block_of
  tables_read h =
      let (t, is-t, h1) = bind_ok (string_table s rooms.strings 0) _ h in
      let (d, is_d, h2) = bind_ok (section_at dbg0 (symbol_table s rooms.symbols) s t.end) _ h1 in
      let (o, is-o, h3) = bind_ok (section_at own0 (path_table revision s rooms.paths) s d.table.end) _ h2 in
      let (g, is-g, h4) = bind_ok (signature_at revision o.found s rooms.families o.table.end) _ h3 in
      let strings = strings_read rooms.strings 0 t is-t in
      let symbols = section_read (symbol_at s) dbg0 (symbol_table s rooms.symbols) s t.end d (symbols_read rooms.symbols) is_d in
      let paths = section_read (path_at revision s) own0 (path_table revision s rooms.paths) s d.table.end o (paths_read rooms.paths) is-o in
      let families = signature_read o.found rooms.families o.table.end g is-g in
      rw (← ok_same h4) (strings, symbols, paths, families.0, families.1)

-- ---- Symbols: each starts 10 bytes after the one before
pub symbol_start : (s : List ℕ) (count at i : ℕ) {t : Table Symbol} (h : records (symbol_at s) count at ≡ ok t) → i < count
    → at + 10 * i + 10 ≤ length s
symbol_start s count at i h l = go (leb (at + 10 * i + 10) (length s)) refl
  where
    go : (b : Bool) → leb (at + 10 * i + 10) (length s) ≡ b → at + 10 * i + 10 ≤ length s
    go true e = leb-true (at + 10 * i + 10) (length s) e
    go false e =
        let short : length s < at + 10 * i + 10 = leb-false (at + 10 * i + 10) (length s) e in
        absurd (never (sym (symbols_cut s ((length s - at) / 10) count at (omega arith) (omega arith) (omega arith)) ∙ h))
