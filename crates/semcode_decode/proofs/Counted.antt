-- In every accepted block each string has the number of its characters: `string_characters`, at each record of the table of strings.
use Prim.Native.Nat.{ℕ, zero, suc}
use mathlib.Core.Path.{◌≡◌}
use mathlib.Core.Logic.{◌⊎◌, inl, inr}
use mathlib.Core.List.Memᴰ
use mathlib.Core.List.{List, Memᴰ}
use lib.Dec.{leb}
use Rattle.local_format.specs.Out.{Out, ok}
use Rattle.local_format.specs.Field.{field}
use Rattle.local_format.specs.Text.{Span, string_at}
use Rattle.local_format.specs.Tag.{dbg0, own0}
use Rattle.local_format.specs.Characters.{Characters}
use Rattle.local_format.proofs.OutLaws.{ok_same, bind_ok, checked_ok, based_ok}
use Rattle.local_format.proofs.CharacterLaws.{string_characters}
use Rattle.semcode_records.specs.Records.{Taken, Entry, Table, records}
use Rattle.semcode_decode.specs.Block.{Rooms, Block, string_record, string_table, symbol_table, path_table, section_at, signature_at, block_of, decode_block}

-- what holds of each record that is read holds of each of a table
module _ {A : Type 0} (read : ℕ → Out (Taken A)) (P : A → Type 0) (one : (at : ℕ) (x : Taken A) → read at ≡ ok x → P x.value) where
  each_record : (n at : ℕ) (t : Table A) → records read n at ≡ ok t → (e : Entry A) → Memᴰ e t.entries → P e.value
  unfolding records
  each_record zero at t h e m = absurd (Memᴰ.not-nil (rw (← ok_same h) at m))
  each_record (suc n) at t h e m =
      let (first, f, h1) = bind_ok (read at) _ h in
      let (rest, g, h2) = bind_ok (records read n first.next) _ h1 in
      go first f (each_record n first.next rest g e) (Memᴰ.cases_cons (rw (← ok_same h2) at m))
    where
      go : (x : Taken A) → read at ≡ ok x → {es : List (Entry A)} → (Memᴰ e es → P e.value)
          → (e ≡ record { start = at; value = x.value; next = x.next }) ⊎ Memᴰ e es → P e.value
      go x f rest (inl q) = rw q (one at x f)
      go x f rest (inr k) = rest k

string_read : (s : List ℕ) (at : ℕ) (x : Taken Span) → string_record s at ≡ ok x → Characters s x.value
string_read s at x e =
    let (text, f, h) = bind_ok (string_at s at) _ e in
    rw (← ok_same h) (string_characters s at text f)

pub strings_counted : (base revision : ℕ) (rooms : Rooms) (s : List ℕ) (b : Block) → decode_block base revision rooms s ≡ ok b
    → (e : Entry Span) → Memᴰ e b.strings.entries → Characters s e.value
unfolding block_of string_table
strings_counted base revision rooms s b d e m =
    let (strings, f, h) = bind_ok (string_table s rooms.strings 0) _ (based_ok base (block_of revision rooms s) d) in
    let (debug, g, h1) = bind_ok (section_at dbg0 (symbol_table s rooms.symbols) s strings.end) _ h in
    let (ownership, i, h2) = bind_ok (section_at own0 (path_table revision s rooms.paths) s debug.table.end) _ h1 in
    let (signature, i1, h3) = bind_ok (signature_at revision ownership.found s rooms.families ownership.table.end) _ h2 in
    let (count, j, k) = bind_ok (field 30 2 s 0) _ f in
    let (l, k1) = checked_ok (leb count.value 256) 31 count.next _ k in
    let (o, k2) = checked_ok (leb count.value rooms.strings) 61 count.next _ k1 in
    each_record (string_record s) (Characters s) (string_read s) count.value count.next strings k2 e (rw (← ok_same h3) at m)
