-- How the functions of a file are read, one a turn: what is told of the whole is what is told of those read so far, then of the rest from here.
use mathlib.Core.Path.{◌≡◌, refl, ap, sym, ◌∙◌}
use Prim.Native.Nat.{ℕ, zero, suc, ◌+◌, ◌-◌, ◌≤◌, ◌<◌}
use native.Mathlib.Omega.{arith}
use native.Mathlib.Nat.{sub-zero}
use native.Mathlib.Numerals.{add-one}
use mathlib.Core.List.{List, [], ◌∷◌, ◌++◌, map, append-nil, append_assoc}
use lib.ListN.{length, take, set, length-map}
use lib.Seq.{take-suc-set}
use borrow.Author.Tests.{le-leb, lt-leb}
use Rattle.local_format.specs.Refusal.{Refusal}
use Rattle.local_format.specs.Out.{Out, ok, refused, refuse, ◌>>=◌}
use Rattle.local_format.proofs.OutLaws.{never, refused_same, ok_same, on_ok, on_refused}
use Rattle.lent_table.specs.Lent.{lent, Front}
use Rattle.semcode_records.specs.Records.{Taken, Entry}
use Rattle.semcode_decode.specs.Block.{Rooms}
use Rattle.semcode_decode.specs.Layout.{layout_of, starts_of}
use Rattle.semcode_functions.specs.Function.{Function, function_at, functions_from}
use Rattle.semcode_functions.specs.File.{last_or, Last, nothing, block, placed, File, file_of, file, function_starts, last_strings, last_paths}
use Rattle.semcode_functions.specs.Turn.{Next, next_of, Begun, BeginsFunction, last_layout}
use Rattle.semcode_functions.proofs.FunctionLaws.{none_left_lem}

-- what is told of some functions: the answer, their starts, and the starts of the last one's strings and paths
pub record Told : Type 0 where
  pub file : File
  pub starts : List ℕ
  pub strings : List ℕ
  pub paths : List ℕ

abbrev pub strings_of : Entry Function → List ℕ
strings_of f = starts_of f.value.block.strings

abbrev pub paths_of : Entry Function → List ℕ
paths_of f = starts_of f.value.block.ownership.table

-- what is told so far, with these functions after it
abbrev pub after : Told → List (Entry Function) → Told
after k fs =
    record {
      file =
          record {
            functions = k.file.functions + length fs;
            cursor = last_or k.file.cursor (map (λ f. f.next) fs);
            last = last_or k.file.last (map placed fs);
          };
      starts = k.starts ++ map (λ f. f.start) fs;
      strings = last_or k.strings (map strings_of fs);
      paths = last_or k.paths (map paths_of fs);
    }

-- with one function after it
abbrev joined : Told → Entry Function → Told
joined k f =
    record {
      file = record { functions = k.file.functions + 1; cursor = f.next; last = placed f };
      starts = k.starts ++ f.start ∷ [];
      strings = strings_of f;
      paths = paths_of f;
    }

joined_one : (k : Told) (f : Entry Function) (fs : List (Entry Function)) → after k (f ∷ fs) ≡ after (joined k f) fs
unfolding last_or
joined_one k f fs =
    let n : k.file.functions + suc (length fs) ≡ k.file.functions + 1 + length fs = omega arith in
    rw (n, append_assoc k.starts (f.start ∷ []) (map (λ f. f.start) fs))

joined_none : (k : Told) → after k [] ≡ k
unfolding last_or
joined_none k = let n : k.file.functions + 0 ≡ k.file.functions = omega arith in rw (n, append-nil k.starts)

abbrev pub tells : Told → Out (List (Entry Function)) → Out Told
tells k x = do
  fs ← x
  ok (after k fs)

tells_refused : (k : Told) (x : Out (List (Entry Function))) {r : Refusal} → tells k x ≡ refused r → x ≡ refused r
tells_refused k (ok fs) e = absurd (never (sym e))
tells_refused k (refused q) e = ap refused (refused_same e)

tells_ok : (k : Told) (x : Out (List (Entry Function))) {t : Told} → tells k x ≡ ok t → (fs : List (Entry Function)) × (x ≡ ok fs) × (after k fs ≡ t)
tells_ok k (ok fs) e = (fs, refl, ok_same e)
tells_ok k (refused r) e = absurd (never e)

tells_one : (k : Told) (f : Entry Function) (x : Out (List (Entry Function))) → tells k (x >>= λ fs. ok (f ∷ fs)) ≡ tells (joined k f) x
tells_one k f (ok fs) = ap ok (joined_one k f fs)
tells_one k f (refused r) = refl

front_take : (n : ℕ) (xs : List ℕ) → Front (take n xs) xs
front_take zero xs = refl
front_take (suc n) [] = refl
front_take (suc n) (x ∷ xs) = ap (λ (ys : List ℕ). x ∷ ys) (front_take n xs)

next_refused : (x : Out (Taken Function)) {r : Refusal} → next_of x ≡ refused r → x ≡ refused r
next_refused (ok t) e = absurd (never (sym e))
next_refused (refused q) e = ap refused (refused_same e)

next_ok : (x : Out (Taken Function)) {n : Next} → next_of x ≡ ok n
    → (t : Taken Function) × (x ≡ ok t) × (record { code = t.value.head.code; layout = layout_of t.value.block; next = t.next } ≡ n)
next_ok (ok t) e = (t, refl, ok_same e)
next_ok (refused r) e = absurd (never e)

-- nothing yet
abbrev pub begun : ℕ → Told
begun cursor = record { file = record { functions = 0; cursor = cursor; last = nothing }; starts = []; strings = []; paths = [] }

begun_file : (cursor : ℕ) (fs : List (Entry Function)) → file_of cursor fs ≡ (after (begun cursor) fs).file
begun_file cursor fs = let z : 0 + length fs ≡ length fs = omega arith in rw z

-- so many are read, the rest start at a place, and this is the last one's block: as many entries of each table as there are starts
abbrev pub here : ℕ → ℕ → Last → List ℕ → List ℕ → List ℕ → Told
here i at last functions strings paths =
    record {
      file = record { functions = i; cursor = at; last = last };
      starts = take i functions;
      strings = take (last_layout last).strings strings;
      paths = take (last_layout last).paths paths;
    }

module _ (revision : ℕ) (rooms : Rooms) (s : List ℕ) (left free cursor : ℕ) where
  abbrev from : ℕ → ℕ → Out (List (Entry Function))
  from i at = functions_from revision rooms s (left - i) (free - i) at

  abbrev pub Reading : ℕ → ℕ → Last → List ℕ → List ℕ → List ℕ → Type 0
  Reading i at last functions strings paths =
      tells (begun cursor) (functions_from revision rooms s left free cursor) ≡ tells (here i at last functions strings paths) (from i at)

  pub read_first : (functions strings paths : List ℕ) → Reading 0 cursor nothing functions strings paths
  read_first functions strings paths = rw (sub-zero left, sub-zero free)

  module _ (i at : ℕ) (last : Last) (functions strings paths : List ℕ) (inv : Reading i at last functions strings paths) where
    whole_refused : {r : Refusal} → from i at ≡ refused r → functions_from revision rooms s left free cursor ≡ refused r
    whole_refused e =
        tells_refused (begun cursor) (functions_from revision rooms s left free cursor)
        (inv ∙ ap (tells (here i at last functions strings paths)) e)

    -- 65: so many are read as a file may have
    pub read_full : at < length s → left ≤ i → functions_from revision rooms s left free cursor ≡ refuse 65 at
    unfolding functions_from
    read_full more h = whole_refused (go (left - i) (omega arith))
      where
        go : (n : ℕ) → n ≡ 0 → functions_from revision rooms s n (free - i) at ≡ refuse 65 at
        go n e = rw (e, lt-leb (length s) at more)

    -- 61: as many as the table has entries
    pub read_no_room : at < length s → i < left → free ≤ i → functions_from revision rooms s left free cursor ≡ refuse 61 at
    unfolding functions_from
    read_no_room more h k = whole_refused (go (omega arith) (omega arith))
      where
        go : left - i ≡ suc (left - suc i) → free - i ≡ 0 → from i at ≡ refuse 61 at
        go e f = rw (e, f, lt-leb (length s) at more)

    module _ (more : at < length s) (h : i < left) (k : i < free) where
      turn : from i at ≡ (do
        first ← function_at revision rooms s at
        rest ← from (i + 1) first.next
        ok (record { start = at; value = first.value; next = first.next } ∷ rest))
      unfolding functions_from
      turn =
          let e : left - i ≡ suc (left - suc i) = omega arith in
          let f : free - i - 1 ≡ free - suc i = omega arith in
          rw (e, lt-leb (length s) at more, le-leb 1 (free - i) (omega arith), f, add-one)

      turn_read : {t : Taken Function} → function_at revision rooms s at ≡ ok t → from i at
          ≡ (from (i + 1) t.next >>= λ rest. ok (record { start = at; value = t.value; next = t.next } ∷ rest))
      turn_read e = turn ∙ on_ok _ e

      read_one : (t : Taken Function) → function_at revision rooms s at ≡ ok t → i < length functions → (strings' paths' : List ℕ)
          → Front (starts_of t.value.block.strings) strings' → Front (starts_of t.value.block.ownership.table) paths'
          → Reading (i + 1) t.next (block t.value.head.code (layout_of t.value.block)) (set functions i at) strings' paths'
      read_one t e room strings' paths' a b =
          let w : take (i + 1) (set functions i at) ≡ take i functions ++ at ∷ [] = rw add-one (take-suc-set functions i at room) in
          let ss : take (length t.value.block.strings.entries) strings' ≡ starts_of t.value.block.strings = rw length-map at a in
          let ps : take (length t.value.block.ownership.table.entries) paths' ≡ starts_of t.value.block.ownership.table =
          rw length-map at b
          in
          inv
          ∙ ap (tells (here i at last functions strings paths)) (turn_read e)
          ∙ tells_one (here i at last functions strings paths) (record { start = at; value = t.value; next = t.next }) (from (i + 1) t.next)
          ∙ rw (w, ss, ps)

      module _ {strings'' paths'' strings' paths' : List ℕ} {told : Out Next}
          (begins : BeginsFunction (function_at revision rooms s at) strings'' paths'' strings' paths' told) where
        pub read_refused : {r : Refusal} → told ≡ refused r
            → (functions_from revision rooms s left free cursor ≡ refused r)
            × (strings' ≡ lent (length strings'') [])
            × (paths' ≡ lent (length paths'') [])
        read_refused e =
            let f = next_refused (function_at revision rooms s at) (sym begins.answer ∙ e) in
            (whole_refused (turn ∙ on_refused _ f), rw f at begins.of_strings, rw f at begins.of_paths)

        pub read_on : {n : Next} → told ≡ ok n → i < length functions
            → Reading (i + 1) n.next (block n.code n.layout) (set functions i at) strings' paths'
        read_on e room =
            let (t, f, same) = next_ok (function_at revision rooms s at) (sym begins.answer ∙ e) in
            rw (← same) (read_one t f room strings' paths' (rw f at begins.of_strings) (rw f at begins.of_paths))

    -- the end
    pub read_all : (strings₀ paths₀ : List ℕ) → length s ≤ at
        → (file cursor (functions_from revision rooms s left free cursor) ≡ ok (record { functions = i; cursor = at; last = last }))
        × Front (function_starts (functions_from revision rooms s left free cursor)) functions
        × Begun (functions_from revision rooms s left free cursor) (last_strings (functions_from revision rooms s left free cursor)) strings₀ strings
        × Begun (functions_from revision rooms s left free cursor) (last_paths (functions_from revision rooms s left free cursor)) paths₀ paths
    read_all strings₀ paths₀ h =
        let done = inv ∙ ap (tells (here i at last functions strings paths)) (none_left_lem revision rooms s (left - i) (free - i) at h) in
        let (fs, e, same) = tells_ok (begun cursor) (functions_from revision rooms s left free cursor)
        (done ∙ ap ok (joined_none (here i at last functions strings paths))) in
        rw e (
          ap ok (begun_file cursor fs ∙ ap (λ (t : Told). t.file) same),
          rw (ap (λ (t : Told). t.starts) same) (front_take i functions),
          rw (ap (λ (t : Told). t.strings) same) (front_take (last_layout last).strings strings),
          rw (ap (λ (t : Told). t.paths) same) (front_take (last_layout last).paths paths),
        )
