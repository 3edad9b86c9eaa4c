-- The words of a block's tables, from what each table's reader says: records that were read once are read again, and their words are put.
use Prim.Native.Nat.{ℕ, ◌+◌, ◌≤◌}
use mathlib.Core.Path.{◌≡◌, refl, ap, sym, ◌∙◌}
use mathlib.Core.Bool.{Bool, true, false, cond}
use mathlib.Core.List.{List, [], append-nil}
use native.Mathlib.Omega.{arith}
use lib.Dec.{leb}
use lib.ListN.{length}
use borrow.Author.Tests.{leb-true}
use Rattle.local_format.specs.Refusal.{Refusal, refusal}
use Rattle.local_format.specs.Out.{Out, ok, refused, refuse, check, ◌>>=◌, ◌>>◌}
use Rattle.local_format.specs.Field.{field}
use Rattle.local_format.specs.Tag.{tag_at, dbg0, own0}
use Rattle.local_format.specs.Text.{Span}
use Rattle.local_format.proofs.OutLaws.{never, refused_same, ok_same, bind_ok, checked_ok}
use Rattle.lent_table.specs.Lent.{lent}
use Rattle.semcode_records.specs.Records.{Taken, Table, no_records, records, ends}
use Rattle.semcode_records.specs.Symbol.{Symbol, symbol_at}
use Rattle.semcode_records.specs.Path.{Path, path_at}
use Rattle.semcode_records.proofs.RecordsLaws.{as_many, places, places_in, records_places}
use Rattle.semcode_decode.specs.Block.{string_record, string_table, symbol_table, path_table, Section, section_at, signature_at, Block, block_of}
use Rattle.semcode_decode.specs.Layout.{starts_of, Extent, extent_of, extent, Tagged, tagged, Layout, layout_of, layout}
use Rattle.semcode_decode.proofs.BlockLaws.{tagged_ok, extent_ok, block_is}
use Rattle.semcode_decode.proofs.ReadLaws.{ReadBy, section_read, strings_read, symbols_read, paths_read}
use Rattle.semcode_decode.proofs.TableLaws.{starts_blank}
use Rattle.record_words.specs.Words.{all_words}
use Rattle.record_words.specs.Fields.{text_fields}
use Rattle.path_words.specs.Words.{path_words}
use Rattle.path_words.proofs.EntryLaws.{table_words, at_words, path_words_are}
use Rattle.path_words.specs.Blocks.{
  symbol_fields,
  path_fields,
  string_words,
  symbol_words,
  block_words,
  Worded,
  worded,
  every_room,
  words_left,
  PutsHere,
  Laid,
  Adds,
}

-- ---- By a reader's places

module _ {A : Type 0} (read : ℕ → Out (Taken A)) (count at : ℕ) where
  pub ends_places : ends (records (places read) count at) ≡ ends (records read count at)
  ends_places = rw (records_places read count at) (go (records read count at))
    where
      go : (x : Out (Table A)) → ends (x >>= λ t. ok (places_in t)) ≡ ends x
      go (ok t) = refl
      go (refused r) = refl

  module _ (words_of : ℕ → List ℕ) (from to : ℕ) (before after : List ℕ)
      (adds : (t : Table (Unit {0})) → records (places read) count at ≡ ok t → Adds (all_words words_of (starts_of t)) from before to after) where
    pub adds_places : (t : Table A) → records read count at ≡ ok t → Adds (all_words words_of (starts_of t)) from before to after
    adds_places t e =
        let blank = starts_blank t.entries in
        rw blank at (adds (places_in t) (records_places read count at ∙ rw e))

-- ---- No words

pub adds_none : (A : Type 0) (words_of : ℕ → List ℕ) (at from : ℕ) (t : List ℕ) → Adds (all_words words_of (starts_of (no_records {A = A} at))) from t from t
unfolding all_words
adds_none A words_of at from t = λ before front l. rw append-nil l

-- ---- A section's records, read again

-- a table with at most so many records, which its reader reads again
pub record Again {A : Type 0} (read : ℕ → Out (Taken A)) (most : ℕ) (t : Table A) : Type 0 where
  pub read_again : records read (length t.entries) t.start ≡ ok t
  pub few : length t.entries ≤ most

again : {A : Type 0} (read : ℕ → Out (Taken A)) (most : ℕ) {t : Table A} → ReadBy read t → length t.entries ≤ most → Again read most t
again read most {t} r few =
    let many = (as_many read r.0 t.start r.1).0 in
    record { read_again = rw many r.1; few = few }

-- what is known of a section by its places
pub record Found {A : Type 0} (read : ℕ → Out (Taken A)) (most : ℕ) (x : Out (Section A)) (start count end : ℕ) : Type 0 where
  pub few : count ≤ most
  pub ended : ends (records read count start) ≡ ok end
  pub table : (d : Section A) → x ≡ ok d → records read count start ≡ ok d.table

found : {A : Type 0} (read : ℕ → Out (Taken A)) (most : ℕ) (x : Out (Section A)) → ((d : Section A) → x ≡ ok d → Again read most d.table)
    → (g : Tagged) → tagged x ≡ ok g → Found read most x g.extent.start g.extent.count g.extent.end
found read most x each g h =
    let (d, e, s) = tagged_ok x h in
    let a = each d e in
    let start : d.table.start ≡ g.extent.start = ap (λ (g : Tagged). g.extent.start) s in
    let count : length d.table.entries ≡ g.extent.count = ap (λ (g : Tagged). g.extent.count) s in
    let end : d.table.end ≡ g.extent.end = ap (λ (g : Tagged). g.extent.end) s in
    let r : records read g.extent.count g.extent.start ≡ ok d.table = rw (start, count) at a.read_again in
    record {
      few = rw count at a.few;
      ended = ap ends r ∙ ap ok end;
      table = λ d' e'. r ∙ ap (λ (d : Section _). ok d.table) (ok_same (sym e ∙ e'));
    }

module _ (s : List ℕ) (at : ℕ) where
  few_symbols : (t : Table Symbol) (at : ℕ) → symbol_table s 8192 at ≡ ok t → length t.entries ≤ 8192
  unfolding symbol_table
  few_symbols t at h =
      let (count, c, h1) = bind_ok (field 35 2 s at) _ h in
      let (a, h2) = checked_ok (leb count.value 8192) 36 count.next _ h1 in
      let (b, h3) = checked_ok (leb count.value 8192) 61 count.next _ h2 in
      let l : count.value ≤ 8192 = leb-true count.value 8192 a in
      rw (as_many (symbol_at s) count.value count.next h3).0 l

  few_in_section : (d : Section Symbol) → section_at dbg0 (symbol_table s 8192) s at ≡ ok d → length d.table.entries ≤ 8192
  unfolding section_at
  few_in_section d h = go (tag_at dbg0 s at) h
    where
      go : (b : Bool) → cond b (symbol_table s 8192 (at + length dbg0) >>= λ t. ok (record { found = true; table = t }))
          (ok (record { found = false; table = no_records at })) ≡ ok d
          → length d.table.entries ≤ 8192
      go true k = let p = bind_ok (symbol_table s 8192 (at + length dbg0)) _ k in rw (← ok_same p.2) (few_symbols p.0 (at + length dbg0) p.1)
      go false k = rw (← ok_same k) (omega arith)

  pub found_symbols : (g : Tagged) → tagged (section_at dbg0 (symbol_table s 8192) s at) ≡ ok g
      → Found (symbol_at s) 8192 (section_at dbg0 (symbol_table s 8192) s at) g.extent.start g.extent.count g.extent.end
  found_symbols =
      found (symbol_at s) 8192 (section_at dbg0 (symbol_table s 8192) s at) λ d e.
      again (symbol_at s) 8192 (section_read (symbol_at s) dbg0 (symbol_table s 8192) s at d (symbols_read 0 every_room s 8192) e) (few_in_section d e)

-- ---- A section by its table

extent_table : {A : Type 0} (x : Out (Table A)) {e : Extent} → extent x ≡ ok e → (t : Table A) × (x ≡ ok t) × (extent_of t ≡ e)
extent_table (ok t) h = (t, refl, ok_same h)
extent_table (refused r) h = absurd (never h)

pub table_refused : {A : Type 0} (x : Out (Table A)) {r : Refusal} → extent x ≡ refused r → x ≡ refused r
table_refused (ok t) h = absurd (never (sym h))
table_refused (refused q) h = ap refused (refused_same h)

module _ {A : Type 0} (x : Out (Table A)) where
  pub tagged_found : {e : Extent} → extent x ≡ ok e → ok (record { found = true; extent = e }) ≡ tagged (x >>= λ t. ok (record { found = true; table = t }))
  tagged_found h = let (t, e, s) = extent_table x h in rw (e, s)

-- ---- The block

module _ (revision : ℕ) (s before after : List ℕ) where
  pub put_refused : {told : Out Worded} {r : Refusal} → block_of revision every_room s ≡ refused r → told ≡ refused r → PutsHere revision s before after told
  unfolding worded
  put_refused e t = record { answer = rw e t; table = λ w h. absurd (never (sym t ∙ h)) }

  -- all words are due
  module _ (b : Block) (is_b : block_of revision every_room s ≡ ok b) (n : ℕ) (l : Laid before (block_words b) n after) where
    pub put_full : {told : Out Worded} {end : ℕ} → b.signature.table.end ≡ end → leb n (length after) ≡ false → told ≡ refuse 61 end
        → PutsHere revision s before after told
    unfolding worded
    put_full e full t =
        let f : leb (length (block_words b)) (length before) ≡ false = rw (l.count, l.size) at full in
        record { answer = rw (is_b, f, e) t; table = λ w h. absurd (never (sym t ∙ h)) }

    pub put_whole : {told : Layout} → layout (block_of revision every_room s) ≡ ok told → leb n (length after) ≡ true
        → PutsHere revision s before after (ok (record { layout = told; words = n }))
    unfolding worded words_left
    put_whole {told} e fits =
        let f : leb (length (block_words b)) (length before) ≡ true = rw (l.count, l.size) at fits in
        let same = ok_same (sym e ∙ ap layout is_b) in
        record { answer = rw (is_b, f, same, l.count); table = λ w h. rw (is_b, f) (l.front (rw l.size at (leb-true n (length after) fits))) }

  -- from the four tables
  module _ {first : Extent} {second third fourth : Tagged} {one two : List ℕ} {n1 n2 n3 : ℕ}
      (e1 : extent (string_table s 256 0) ≡ ok first)
      (a1 : (t : Table Span) → string_table s 256 0 ≡ ok t → Adds (all_words (string_words s) (starts_of t)) 0 before n1 one)
      (e2 : tagged (section_at dbg0 (symbol_table s 8192) s first.end) ≡ ok second)
      (a2 : (d : Section Symbol) → section_at dbg0 (symbol_table s 8192) s first.end ≡ ok d
      → Adds (all_words (symbol_words s) (starts_of d.table)) n1 one n2 two)
      (e3 : tagged (section_at own0 (path_table revision s 65535) s second.extent.end) ≡ ok third)
      (a3 : (d : Section Path) → section_at own0 (path_table revision s 65535) s second.extent.end ≡ ok d
      → Adds (all_words (path_words revision s) (starts_of d.table)) n2 two n3 after)
      (e4 : tagged (signature_at revision third.found s 4096 third.extent.end) ≡ ok fourth)
    where
      pub record Put : Type 0 where
        pub block : Block
        pub is_block : block_of revision every_room s ≡ ok block
        pub end : block.signature.table.end ≡ fourth.extent.end
        pub words : Laid before (block_words block) n3 after

      pub all_put : Put
      unfolding block_words
      all_put =
          let (t, is-t, end-t) = extent_ok (string_table s 256 0) e1 in
          let (d, is_d, of-d) = tagged_ok (section_at dbg0 (symbol_table s 8192) s first.end) e2 in
          let (o, is-o, of-o) = tagged_ok (section_at own0 (path_table revision s 65535) s second.extent.end) e3 in
          let (g, is-g, of-g) = tagged_ok (signature_at revision third.found s 4096 third.extent.end) e4 in
          let debug_end : d.table.end ≡ second.extent.end = ap (λ (g : Tagged). g.extent.end) of-d in
          let start : Laid before [] 0 before = record { count = refl; size = refl; front = λ h. refl } in
          let strings = table_words (string_record s) (string_words s) text_fields (at_words (string_record s) text_fields)
          (strings_read revision every_room s 256 0 t is-t) in
          let symbols = table_words (symbol_at s) (symbol_words s) symbol_fields (at_words (symbol_at s) symbol_fields)
          (section_read (symbol_at s) dbg0 (symbol_table s 8192) s first.end d (symbols_read revision every_room s 8192) is_d) in
          let paths = table_words (path_at revision s) (path_words revision s) path_fields (path_words_are revision s)
          (section_read (path_at revision s) own0 (path_table revision s 65535) s second.extent.end o (paths_read revision every_room s 65535) is-o) in
          let put = a3 o is-o before _ (a2 d is_d before _ (a1 t is-t before [] start)) in
          record {
            block = record { strings = t; debug = d; ownership = o; signature = g };
            is_block = block_is revision every_room s is-t (rw end-t is_d) (rw debug_end is-o)
                (rw (ap (λ (g : Tagged). g.found) of-o, ap (λ (g : Tagged). g.extent.end) of-o) is-g);
            end = ap (λ (g : Tagged). g.extent.end) of-g;
            words = rw (strings, symbols, paths) at put;
          }

-- ---- A refusal

pub check_refused : (t : Bool) (n at : ℕ) {r : Refusal} → refused r ≡ check t n at → (t ≡ false) × (r ≡ refusal n at)
check_refused true n at e = absurd (never e)
check_refused false n at e = (refl, refused_same e)

module _ (before : List ℕ) where
  pub none_left : (x : Out Block) {r : Refusal} → refused r ≡ worded (length before) x → words_left before x ≡ lent (length before) []
  unfolding worded words_left
  none_left (refused r) e = refl
  none_left (ok b) {r} e = go (leb (length (block_words b)) (length before)) refl e
    where
      go : (t : Bool) → leb (length (block_words b)) (length before) ≡ t
          → ◌≡◌ {A = Out Worded} (refused r)
          (check t 61 b.signature.table.end >> ok (record { layout = layout_of b; words = length (block_words b) }))
          → words_left before (ok b) ≡ lent (length before) []
      go true h e = absurd (never e)
      go false h e = rw h
