-- A block decoded anew, with what the decoder leaves: what is then left, where the block is refused, the record is read again, or the number is not there.
use mathlib.Core.Path.{◌≡◌, ap, sym, ◌∙◌}
use Prim.Native.Nat.{ℕ, ◌+◌, ◌*◌, ◌≤◌, ◌<◌}
use native.Mathlib.Omega.{arith}
use mathlib.Core.List.{List, []}
use lib.ListN.{length, get_or}
use Rattle.local_format.specs.Refusal.{Refusal}
use Rattle.local_format.specs.Out.{Out, ok, refused, refuse}
use Rattle.local_format.specs.Text.{Span, string_at}
use Rattle.local_format.specs.Number.{numbered, choose}
use Rattle.local_format.proofs.OutLaws.{based_ok}
use Rattle.local_format.proofs.NumberLaws.{not_there_lem}
use Rattle.lent_table.specs.Lent.{lent}
use Rattle.lent_table.proofs.Laws.{lent_entry}
use Rattle.semcode_records.specs.Records.{Taken, Entry}
use Rattle.semcode_records.specs.Symbol.{Symbol, symbol_at}
use Rattle.semcode_records.specs.Path.{Head, head_at}
use Rattle.semcode_decode.specs.Block.{Rooms, Block, block_of}
use Rattle.semcode_decode.specs.Layout.{Layout, layout_of, layout, string_starts, path_starts, Lent, rooms_of, Leaves, Decodes}
use Rattle.semcode_decode.specs.Number.{decode_anew, Asked, block_in, string_number, symbol_number, path_number, taken_in, text_in, head_in}
use Rattle.semcode_decode.proofs.BlockLaws.{layout_ok}
use Rattle.semcode_read.proofs.NumberLaws.{block_refused, not_picked, string_found, symbol_found, path_found}

module _ {A B : Type 0} (tell : Out (Asked A) → B) (asked : Out (Asked A)) (before : Lent) {answer : B} where
  -- the tables are the block's
  pub kept : {C : Type 0} {block : Out Block} {after : Lent} {told due : C} → Leaves block before after told due → block_in asked ≡ block → answer ≡ tell asked
      → Leaves (block_in asked) before after answer (tell asked)
  kept d e h = record { answer = h; strings = rw e d.strings; paths = rw e d.paths; families = rw e d.families }

  -- they are cleared
  pub cleared : {C : Type 0} (between : Lent) {after : Lent} {told due : C} → Leaves (refuse 62 0) between after told due → asked ≡ refuse 62 0
      → length between.strings ≡ length before.strings → length between.paths ≡ length before.paths
      → length between.families ≡ length before.families → answer ≡ tell (refuse 62 0) → Leaves (block_in asked) before after answer (tell asked)
  cleared between d e l m n h =
      rw e (record {
        answer = h;
        strings = d.strings ∙ ap (λ (n : ℕ). lent n []) l;
        paths = d.paths ∙ ap (λ (n : ℕ). lent n []) m;
        families = d.families ∙ ap (λ (n : ℕ). lent n []) n;
      })

module _ (base revision : ℕ) (s : List ℕ) (before after : Lent) {told : Out Layout} (left : Decodes layout base revision 8192 s before after told) where
  abbrev block : Out Block
  block = decode_anew base revision s before

  abbrev rooms : Rooms
  rooms = rooms_of before 8192

  pub refused_anew : {A B : Type 0} (tell : Out (Asked A) → B) (pick : Block → Out (Entry A)) {r : Refusal} → told ≡ refused r → {answer : B}
      → answer ≡ tell (refused r) → Leaves (block_in (choose pick block)) before after answer (tell (choose pick block))
  refused_anew tell pick h e =
      let b = block_refused pick block (sym left.answer ∙ h) in
      kept tell (choose pick block) before left b.1 (e ∙ ap tell (sym b.0))

  module _ {l : Layout} (accepted : told ≡ ok l) (n : ℕ) where
    there : (b : Block) × (block ≡ ok b) × (layout_of b ≡ l)
    there = layout_ok block (sym left.answer ∙ accepted)

    read : block_of revision rooms s ≡ ok there.0
    read = based_ok base (block_of revision rooms s) there.1

    pub string_anew : n < l.strings
        → (n < length after.strings)
        × ((answer : Out Span) → answer ≡ string_at s (get_or after.strings n 0)
        → Leaves (block_in (string_number n block)) before after answer (text_in (string_number n block)))
    string_anew h =
        let m : length there.0.strings.entries ≡ l.strings = ap (λ (l : Layout). l.strings) there.2 in
        let f = string_found revision rooms s block there.0 there.1 read n (omega arith) in
        let e = lent_entry (length before.strings) n (string_starts block) f.2 in (
          rw left.strings e.0,
          λ _ k. kept text_in (string_number n block) before left f.1
              (k ∙ ap (λ (t : List ℕ). string_at s (get_or t n 0)) left.strings ∙ ap (string_at s) e.1 ∙ sym f.0),
        )

    pub symbol_anew : n < l.symbols
        → (l.symbols_start + 10 * n + 10 ≤ length s)
        × ((answer : Out (Taken Symbol)) → answer ≡ symbol_at s (l.symbols_start + 10 * n)
        → Leaves (block_in (symbol_number n block)) before after answer (taken_in (symbol_number n block)))
    symbol_anew h =
        let m : length there.0.debug.table.entries ≡ l.symbols = ap (λ (l : Layout). l.symbols) there.2 in
        let at : there.0.debug.table.start ≡ l.symbols_start = ap (λ (l : Layout). l.symbols_start) there.2 in
        let f = symbol_found revision rooms s block there.0 there.1 read n (omega arith) in (
          omega (arith, f.2),
          λ _ k. kept taken_in (symbol_number n block) before left f.1 (k ∙ ap (λ (k : ℕ). symbol_at s (k + 10 * n)) (sym at) ∙ sym f.0),
        )

    pub path_anew : n < l.paths
        → (n < length after.paths)
        × ((answer : Out (Taken Head)) → answer ≡ head_at revision s (get_or after.paths n 0)
        → Leaves (block_in (path_number n block)) before after answer (head_in (path_number n block)))
    path_anew h =
        let m : length there.0.ownership.table.entries ≡ l.paths = ap (λ (l : Layout). l.paths) there.2 in
        let f = path_found revision rooms s block there.0 there.1 read n (omega arith) in
        let e = lent_entry (length before.paths) n (path_starts block) f.2 in (
          rw left.paths e.0,
          λ _ k. kept head_in (path_number n block) before left f.1
              (k ∙ ap (λ (t : List ℕ). head_at revision s (get_or t n 0)) left.paths ∙ ap (head_at revision s) e.1 ∙ sym f.0),
        )

    -- a number that is not in a table of the block
    pub missing_anew : {A : Type 0} (table : Block → List (Entry A)) (count : Layout → ℕ) → ((b : Block) → length (table b) ≡ count (layout_of b))
        → count l ≤ n → choose (λ b. numbered n (table b)) block ≡ refuse 62 0
    missing_anew table count each h =
        let m = each there.0 ∙ ap count there.2 in
        not_picked (λ b. numbered n (table b)) block there.1 (not_there_lem n (table there.0) (omega arith))
