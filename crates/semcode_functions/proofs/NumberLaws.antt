-- A function by its number: the file's refusal where it is refused, the head read again at its start, or 62.
use mathlib.Core.Path.{◌≡◌, refl, ap, sym, ◌∙◌}
use Prim.Native.Nat.{ℕ, ◌≤◌, ◌<◌}
use native.Mathlib.Omega.{arith}
use mathlib.Core.List.{List}
use lib.ListN.{length, get_or, length-map}
use Rattle.local_format.specs.Refusal.{Refusal}
use Rattle.local_format.specs.Out.{Out, ok, refused, refuse}
use Rattle.local_format.proofs.OutLaws.{never, ok_same, refused_same}
use Rattle.local_format.proofs.NumberLaws.{is_there, not_there_lem}
use Rattle.lent_table.proofs.Laws.{lent_entry}
use Rattle.semcode_records.specs.Records.{Taken, Entry}
use Rattle.semcode_decode.specs.Layout.{rooms_of}
use Rattle.semcode_functions.specs.Function.{Head, Function, head_at}
use Rattle.semcode_functions.specs.File.{File, file, function_starts, FileLent, functions_of, LeavesFile}
use Rattle.semcode_functions.specs.Number.{function_number, functions_in, head_in}
use Rattle.semcode_functions.specs.Turn.{zeros}
use Rattle.semcode_functions.proofs.FileLaws.{AsLong, left_zeros}
use Rattle.semcode_functions.proofs.Listing.{functions_listed}

module _ (n cursor : ℕ) {before between : FileLent} {told : Out File} where
  pub file_refused : (x : Out (List (Entry Function))) {r : Refusal} → LeavesFile x before between told (file cursor x) → told ≡ refused r
      → {answer : Out (Taken Head)} → answer ≡ refused r
      → LeavesFile (functions_in (function_number n x)) before between answer (head_in (function_number n x))
  unfolding function_number
  file_refused (ok fs) l t a = absurd (never (sym t ∙ l.answer))
  file_refused (refused q) l t a =
      record {
        answer = a ∙ ap refused (refused_same (sym t ∙ l.answer));
        functions = l.functions;
        strings = l.strings;
        paths = l.paths;
        families = l.families;
      }

  pub not_in_file : (x : Out (List (Entry Function))) {f : File} {after : FileLent} → LeavesFile x before between told (file cursor x) → told ≡ ok f
      → f.functions ≤ n → AsLong before between → after ≡ zeros between → {answer : Out (Taken Head)} → answer ≡ refuse 62 0
      → LeavesFile (functions_in (function_number n x)) before after answer (head_in (function_number n x))
  unfolding function_number
  not_in_file (ok fs) {f} l t h long e a =
      let m : f.functions ≡ length fs = ap (λ (f : File). f.functions) (ok_same (sym t ∙ l.answer)) in
      rw (not_there_lem n fs (omega arith)) (left_zeros long e a)
  not_in_file (refused q) l t h long e a = absurd (never (sym l.answer ∙ t))

module _ (n cursor revision symbols : ℕ) (s : List ℕ) (before after : FileLent) where
  abbrev decoded : Out (List (Entry Function))
  decoded = functions_of cursor revision symbols s before

  pub in_file : {told : Out File} {f : File} → LeavesFile decoded before after told (file cursor decoded) → told ≡ ok f → n < f.functions
      → (n < length after.functions)
      × ((answer : Out (Taken Head)) → answer ≡ head_at s (get_or after.functions n 0)
      → LeavesFile (functions_in (function_number n decoded)) before after answer (head_in (function_number n decoded)))
  unfolding function_number
  in_file {told} {f} l t h = go decoded refl l
    where
      go : (x : Out (List (Entry Function))) → decoded ≡ x → LeavesFile x before after told (file cursor x)
          → (n < length after.functions)
          × ((answer : Out (Taken Head)) → answer ≡ head_at s (get_or after.functions n 0)
          → LeavesFile (functions_in (function_number n x)) before after answer (head_in (function_number n x)))
      go (ok fs) d l =
          let m : f.functions ≡ length fs = ap (λ (f : File). f.functions) (ok_same (sym t ∙ l.answer)) in
          let (e, k) = is_there n fs (omega arith) in
          let starts : n < length (function_starts (ok fs)) = rw (length-map fs (λ (f : Entry Function). f.start)) (omega arith) in
          let w = (lent_entry (length before.functions) n (function_starts (ok fs)) starts).0 in
          let read = functions_listed revision (rooms_of before.block symbols) s (length before.functions) cursor fs d n (omega arith) in (
            rw l.functions w,
            λ _ a. record {
              answer = a ∙ rw l.functions read;
              functions = rw k l.functions;
              strings = rw k l.strings;
              paths = rw k l.paths;
              families = rw k l.families;
            },
          )
      go (refused r) d l = absurd (never (sym l.answer ∙ t))
