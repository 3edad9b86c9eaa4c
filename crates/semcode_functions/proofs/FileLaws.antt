-- A file's answer and its tables: after a refusal zeros; else the starts that were found and zeros past them, and the last function's families.
use mathlib.Core.Path.{◌≡◌, refl, ap, sym, ◌∙◌}
use Prim.Native.Nat.{ℕ}
use mathlib.Core.List.{List, [], ◌∷◌, map}
use lib.ListN.{length, take, drop, length-map}
use lib.Seq.{take-nil}
use Rattle.local_format.specs.Refusal.{Refusal}
use Rattle.local_format.specs.Out.{Out, ok, refused}
use Rattle.local_format.specs.Text.{bytes_at}
use Rattle.local_format.proofs.OutLaws.{never, ok_same, based_ok}
use Rattle.lent_table.specs.Lent.{lent}
use Rattle.lent_table.proofs.Laws.{front_lent}
use Rattle.semcode_records.specs.Records.{Taken, Entry}
use Rattle.semcode_decode.specs.Block.{Rooms, block_of}
use Rattle.semcode_decode.specs.Layout.{starts_of, families_of}
use Rattle.semcode_decode.proofs.SignatureLaws.{block_families_lem}
use Rattle.semcode_functions.specs.Function.{Function, function_at, decode_functions}
use Rattle.semcode_functions.specs.File.{
  last_or,
  Last,
  nothing,
  placed,
  File,
  file_of,
  file,
  last_strings,
  last_paths,
  FileLent,
  file_tables,
  LeavesFile,
}
use Rattle.semcode_functions.specs.Turn.{BeginsFile, last_layout, family_bytes, zeros, left_of}
use Rattle.semcode_functions.proofs.FunctionLaws.{function_ok, Row, none, one, row}

-- the tables have as many entries
pub record AsLong (before after : FileLent) : Type 0 where
  pub functions : length after.functions ≡ length before.functions
  pub strings : length after.block.strings ≡ length before.block.strings
  pub paths : length after.block.paths ≡ length before.block.paths
  pub families : length after.block.families ≡ length before.block.families

-- a refusal, and zeros
pub left_zeros : {A : Type 0} {before between after : FileLent} {answer due : A} {r : Refusal} → AsLong before between → after ≡ zeros between
    → answer ≡ due → LeavesFile (refused r) before after answer due
left_zeros l e a =
    rw e (record {
      answer = a;
      functions = ap (λ (n : ℕ). lent n []) l.functions;
      strings = ap (λ (n : ℕ). lent n []) l.strings;
      paths = ap (λ (n : ℕ). lent n []) l.paths;
      families = ap (λ (n : ℕ). lent n []) l.families;
    })

-- as many starts of the last block as its layout counts
module _ (count : Last → ℕ) (starts : Entry Function → List ℕ) (each : (f : Entry Function) → length (starts f) ≡ count (placed f)) where
  last_counted : (last : Last) (xs : List ℕ) → length xs ≡ count last → (fs : List (Entry Function))
      → length (last_or xs (map starts fs)) ≡ count (last_or last (map placed fs))
  unfolding last_or
  last_counted last xs e [] = e
  last_counted last xs e (f ∷ fs) = last_counted (placed f) (starts f) (each f) fs

-- and its families stand in the bytes where its layout says
module _ (revision : ℕ) (rooms : Rooms) (s : List ℕ) where
  here_families : (at : ℕ) (t : Taken Function) → function_at revision rooms s at ≡ ok t
      → take rooms.families (family_bytes s (placed (record { start = at; value = t.value; next = t.next }))) ≡ families_of t.value.block
  here_families at t f =
      let h = t.value.head in
      let b = based_ok h.code (block_of revision rooms (bytes_at s h.code h.size)) (function_ok revision rooms s at t f).1 in
      block_families_lem (drop h.code s) h.size revision rooms b

  last_families : (last : Last) (xs : List ℕ) → take rooms.families (family_bytes s last) ≡ xs → {at : ℕ} {fs : List (Entry Function)}
      → Row revision rooms s at fs
      → take rooms.families (family_bytes s (last_or last (map placed fs))) ≡ last_or xs (map (λ f. families_of f.value.block) fs)
  unfolding last_or
  last_families last xs e (none l) = e
  last_families last xs e {at} (one {t} l f rest) = last_families _ _ (here_families at t f) rest

-- a refusal, after which the tables of a block hold zeros
pub file_refused : (cursor : ℕ) (before between : FileLent) → AsLong before between → (x : Out (List (Entry Function))) {told : Out File} {r : Refusal}
    → BeginsFile cursor x between.functions before.block.strings before.block.paths between.block.strings between.block.paths told
    → told ≡ refused r → {functions families : List ℕ} → functions ≡ lent (length between.functions) []
    → families ≡ lent (length between.block.families) [] → {answer : Out File} → answer ≡ refused r
    → LeavesFile x before (file_tables functions between.block.strings between.block.paths families) answer (file cursor x)
file_refused cursor before between long (ok fs) b t e f a = absurd (never (sym t ∙ b.answer))
file_refused cursor before between long (refused q) b t e f a =
    record {
      answer = a ∙ sym t ∙ b.answer;
      functions = e ∙ ap (λ (n : ℕ). lent n []) long.functions;
      strings = b.of_strings;
      paths = b.of_paths;
      families = f ∙ ap (λ (n : ℕ). lent n []) long.families;
    }

module _ (cursor : ℕ) (before between after : FileLent) (long : AsLong before between) where
  module _ (revision : ℕ) (rooms : Rooms) (s : List ℕ) (entries : ℕ) (room : rooms.families ≡ length before.block.families) where
    pub file_read : {told : Out File} {f : File}
        → BeginsFile cursor (decode_functions revision rooms entries s cursor) between.functions before.block.strings before.block.paths
        between.block.strings between.block.paths told
        → told ≡ ok f → after ≡ left_of f s between → LeavesFile (decode_functions revision rooms entries s cursor) before after (ok f)
        (file cursor (decode_functions revision rooms entries s cursor))
    file_read {told} {f} b t e = go (decode_functions revision rooms entries s cursor) refl b
      where
        go : (x : Out (List (Entry Function))) → decode_functions revision rooms entries s cursor ≡ x
            → BeginsFile cursor x between.functions before.block.strings before.block.paths between.block.strings between.block.paths told
            → LeavesFile x before after (ok f) (file cursor x)
        go (ok fs) d b =
            let same : f ≡ file_of cursor fs = ok_same (sym t ∙ b.answer) in
            let families =
            last_families revision rooms s nothing [] (take-nil rooms.families) (row revision rooms s 1024 entries cursor fs d)
            in
            let many : length between.block.families ≡ rooms.families = long.families ∙ sym room in
            rw (e, same) (record {
              answer = refl;
              functions = front_lent (length fs) (length before.functions) between.functions (map (λ f. f.start) fs) long.functions
                  (length-map fs _) b.of_functions;
              strings = front_lent _ (length before.block.strings) between.block.strings (last_strings (ok fs)) long.strings
                  (last_counted (λ l. (last_layout l).strings) (λ f. starts_of f.value.block.strings)
                  (λ f. length-map f.value.block.strings.entries _) nothing []
                  refl fs) b.of_strings;
              paths = front_lent _ (length before.block.paths) between.block.paths (last_paths (ok fs)) long.paths
                  (last_counted (λ l. (last_layout l).paths) (λ f. starts_of f.value.block.ownership.table)
                  (λ f. length-map f.value.block.ownership.table.entries _) nothing [] refl fs) b.of_paths;
              families = rw (many, families, room);
            })
        go (refused r) d b = absurd (never (sym b.answer ∙ t))

-- the same is left where a map of the answer is told
pub mapped : {A B : Type 0} (f : A → B) {decoded : Out (List (Entry Function))} {before after : FileLent} {told due : A} {answer : B}
    → LeavesFile decoded before after told due → answer ≡ f told → LeavesFile decoded before after answer (f due)
mapped f l e =
    record { answer = e ∙ ap f l.answer; functions = l.functions; strings = l.strings; paths = l.paths; families = l.families }
