-- What is told of the functions read so far, then of the rest from the place on.
use Prim.Native.Nat.{ℕ, ◌+◌, ◌≤◌, ◌<◌}
use native.Mathlib.Omega.{arith}
use mathlib.Core.Path.{◌≡◌, refl, ap, sym, ◌∙◌}
use mathlib.Core.List.{List, []}
use lib.ListN.{length, length-set}
use Rattle.std.proofs.Common.{rules}
use Rattle.local_format.specs.Out.{Out, refused, refuse}
use Rattle.lent_table.specs.Lent.{lent}
use Rattle.semcode_records.specs.Records.{Entry}
use Rattle.semcode_decode.specs.Block.{Rooms}
use Rattle.semcode_decode.specs.Layout as of
use Rattle.semcode_functions.specs.Function.{Function, functions_from}
use Rattle.semcode_functions.specs.Maps.{last_is}
use Rattle.semcode_functions.proofs.LoopLaws.{read_first, read_full, read_no_room, read_refused, read_on, read_all}
use Rattle.semcode_functions.proofs.functions.each_function.Goals as goal

one_more : {i n : ℕ} → i < n → i + 1 ≤ n
one_more h = omega arith

pub loop-at-init : goal.loop-at-init
loop-at-init c =
    let a = c.args in (
      omega arith,
      refl,
      refl,
      refl,
      read_first a.header_rev (of.rooms (length a.strings.now) a.symbols (length a.paths.now) a.families) a.bytes.now 1024
          (length a.functions.now) a.cursor a.functions.now a.strings.now a.paths.now,
    )

pub returns-then-count-ge-MAX_FUNCTIONS : goal.returns-then-count-ge-MAX_FUNCTIONS
returns-then-count-ge-MAX_FUNCTIONS c =
    let length-of : ℕ = length c.args.bytes.now in
    let rooms : Rooms =
    let a = c.args in
    of.rooms (length a.strings.now) a.symbols (length a.paths.now) a.families in
    let whole : Out (List (Entry Function)) =
    let a = c.args in
    functions_from a.header_rev rooms a.bytes.now 1024 (length a.functions.now) a.cursor in
    let full : c.loop-at.at < length-of → 1024 ≤ c.loop-at.count → whole ≡ refuse 65 c.loop-at.at =
    let a = c.args in
    read_full a.header_rev rooms a.bytes.now 1024 (length a.functions.now) a.cursor c.loop-at.count c.loop-at.at
    (last_is c.loop-at.last) c.loop-at.functions c.loop-at.strings c.loop-at.paths c.loop-at.invariant.4 in
    rw (full c.loop-at-test.true c.if-count-ge-MAX_FUNCTIONS.true) (record {
      answer = ap refused c.refuse.ensures;
      of_functions = refl;
      of_strings = c.clear.ensures ∙ ap (λ (n : ℕ). lent n []) c.loop-at.invariant.2;
      of_paths = c.clear-then-count-ge-MAX_FUNCTIONS.ensures ∙ ap (λ (n : ℕ). lent n []) c.loop-at.invariant.3;
    })

pub returns-then-functions-count : goal.returns-then-functions-count
returns-then-functions-count c =
    let length-of : ℕ = length c.args.bytes.now in
    let rooms : Rooms =
    let a = c.args in
    of.rooms (length a.strings.now) a.symbols (length a.paths.now) a.families in
    let whole : Out (List (Entry Function)) =
    let a = c.args in
    functions_from a.header_rev rooms a.bytes.now 1024 (length a.functions.now) a.cursor in
    let no_room : c.loop-at.at < length-of → c.loop-at.count < 1024 → length c.loop-at.functions ≤ c.loop-at.count → whole ≡ refuse 61 c.loop-at.at =
    λ more h k. let a = c.args in
    read_no_room a.header_rev rooms a.bytes.now 1024 (length a.functions.now) a.cursor c.loop-at.count c.loop-at.at
    (last_is c.loop-at.last) c.loop-at.functions c.loop-at.strings c.loop-at.paths c.loop-at.invariant.4 more h (rw c.loop-at.invariant.1 at k) in
    rw (no_room c.loop-at-test.true c.if-count-ge-MAX_FUNCTIONS.false c.if-functions-count.true) (record {
      answer = ap refused c.refuse-then-functions-count.ensures;
      of_functions = refl;
      of_strings = c.clear-then-functions-count.ensures ∙ ap (λ (n : ℕ). lent n []) c.loop-at.invariant.2;
      of_paths = c.clear-then-functions-count-2.ensures ∙ ap (λ (n : ℕ). lent n []) c.loop-at.invariant.3;
    })

pub returns-in_err-placed : goal.returns-in_err-placed
returns-in_err-placed c =
    let a = c.args in
    let rooms : Rooms = of.rooms (length a.strings.now) a.symbols (length a.paths.now) a.families in
    let room : c.loop-at.count < length a.functions.now = rw c.loop-at.invariant.1 at c.if-functions-count.false in
    let begins = rw (c.loop-at.invariant.2, c.loop-at.invariant.3) at c.in_err-placed.ensures in
    let e = read_refused a.header_rev rooms a.bytes.now 1024 (length a.functions.now) a.cursor c.loop-at.count c.loop-at.at
    (last_is c.loop-at.last) c.loop-at.functions c.loop-at.strings c.loop-at.paths c.loop-at.invariant.4 c.loop-at-test.true
    c.if-count-ge-MAX_FUNCTIONS.false room begins refl in
    rw e.0 (record {
      answer = search rules;
      of_functions = refl;
      of_strings = e.1 ∙ ap (λ (n : ℕ). lent n []) c.loop-at.invariant.2;
      of_paths = e.2 ∙ ap (λ (n : ℕ). lent n []) c.loop-at.invariant.3;
    })

pub loop-at-preserved : goal.loop-at-preserved
loop-at-preserved c =
    let a = c.args in
    let rooms : Rooms = of.rooms (length a.strings.now) a.symbols (length a.paths.now) a.families in
    let room : c.loop-at.count < length a.functions.now = rw c.loop-at.invariant.1 at c.if-functions-count.false in
    let begins = rw (c.loop-at.invariant.2, c.loop-at.invariant.3) at c.in_ok-placed.ensures in (
      one_more c.if-count-ge-MAX_FUNCTIONS.false,
      simp length-set c.loop-at.invariant.1,
      c.next_function.auto.strings ∙ c.loop-at.invariant.2,
      c.next_function.auto.paths ∙ c.loop-at.invariant.3,
      read_on a.header_rev rooms a.bytes.now 1024 (length a.functions.now) a.cursor c.loop-at.count c.loop-at.at
          (last_is c.loop-at.last) c.loop-at.functions c.loop-at.strings c.loop-at.paths c.loop-at.invariant.4 c.loop-at-test.true
          c.if-count-ge-MAX_FUNCTIONS.false room begins refl c.if-functions-count.false,
    )

pub returns : goal.returns
returns c =
    let rooms : Rooms =
    let a = c.args in
    of.rooms (length a.strings.now) a.symbols (length a.paths.now) a.families in
    let a = c.args in
    let w =
    read_all a.header_rev rooms a.bytes.now 1024 (length a.functions.now) a.cursor c.loop-at.count c.loop-at.at (last_is c.loop-at.last)
    c.loop-at.functions c.loop-at.strings c.loop-at.paths c.loop-at.invariant.4 a.strings.now a.paths.now (omega arith)
    in
    record { answer = sym w.0; of_functions = w.1; of_strings = w.2; of_paths = w.3 }
