-- By the law of the block for each table at which it can end.
use Rattle.std.specs.Prelude.{Option, Some, None}
use Rattle.std.specs.Option.{is_some}
use Rattle.std.proofs.Common.{◌≡◌, ℕ, ap, sym, ◌∙◌, rules, refl, length}
use Rattle.semcode_decode.specs.declared.table.Table.{Table}
use Rattle.semcode_decode.specs.Maps.{section_is}
use Rattle.semcode_decode.specs.Block.{Rooms}
use Rattle.semcode_decode.specs.Layout as of
use Rattle.semcode_decode.proofs.BlockLaws.{strings_refused, debug_refused, ownership_refused, signature_refused, all_read}
use Rattle.semcode_decode.proofs.decode.read_block.Goals as goal

found_is : (at : ℕ) (o : Option Table) → is_some o ≡ (section_is at o).found
found_is at (Some t) = refl
found_is at None = refl

pub returns-in_err-strings_read : goal.returns-in_err-strings_read
returns-in_err-strings_read c =
    let a = c.args in
    let rooms : Rooms = of.rooms (length a.strings.now) a.symbols (length a.paths.now) a.families in
    let e = strings_refused a.header_rev rooms a.code.now (sym c.in_err-strings_read.ensures.result_value) in
    rw e (record { answer = search rules; of_strings = tt; of_paths = tt })

pub returns-in_err-debug : goal.returns-in_err-debug
returns-in_err-debug c =
    let a = c.args in
    let rooms : Rooms = of.rooms (length a.strings.now) a.symbols (length a.paths.now) a.families in
    let e = debug_refused a.header_rev rooms a.code.now (sym c.in_ok-strings_read.ensures.result_value) (sym c.in_err-debug.ensures) in
    rw e (record { answer = search rules; of_strings = tt; of_paths = tt })

pub returns-in_err-ownership : goal.returns-in_err-ownership
returns-in_err-ownership c =
    let a = c.args in
    let rooms : Rooms = of.rooms (length a.strings.now) a.symbols (length a.paths.now) a.families in
    let from = ap (λ (x : of.Extent). x.end) c.table_of-symbols_read.ensures in
    let e = ownership_refused a.header_rev rooms a.code.now (sym c.in_ok-strings_read.ensures.result_value) (sym c.in_ok-debug.ensures)
    (sym (rw from at c.in_err-ownership.ensures.result_value)) in
    rw e (record { answer = search rules; of_strings = tt; of_paths = tt })

pub returns-in_err-signature : goal.returns-in_err-signature
returns-in_err-signature c =
    let a = c.args in
    let rooms : Rooms = of.rooms (length a.strings.now) a.symbols (length a.paths.now) a.families in
    let from = ap (λ (x : of.Extent). x.end) c.table_of-symbols_read.ensures in
    let at : ℕ = (section_is c.in_ok-strings_read.strings_read.end c.in_ok-debug.debug).extent.end in
    let third = c.is_some.ensures ∙ found_is at c.in_ok-ownership.ownership in
    let paths = c.table_of-paths_read.ensures ∙ ap (λ at. (section_is at c.in_ok-ownership.ownership).extent) from in
    let behind = ap (λ (x : of.Extent). x.end) paths in
    let e = signature_refused a.header_rev rooms a.code.now (sym c.in_ok-strings_read.ensures.result_value) (sym c.in_ok-debug.ensures)
    (sym (rw from at c.in_ok-ownership.ensures.result_value)) (sym (rw (third, behind) at c.in_err-signature.ensures)) in
    rw e (record { answer = search rules; of_strings = tt; of_paths = tt })

pub returns : goal.returns
returns c =
    let a = c.args in
    let rooms : Rooms = of.rooms (length a.strings.now) a.symbols (length a.paths.now) a.families in
    let from = ap (λ (x : of.Extent). x.end) c.table_of-symbols_read.ensures in
    let at : ℕ = (section_is c.in_ok-strings_read.strings_read.end c.in_ok-debug.debug).extent.end in
    let third = c.is_some.ensures ∙ found_is at c.in_ok-ownership.ownership in
    let paths = c.table_of-paths_read.ensures ∙ ap (λ at. (section_is at c.in_ok-ownership.ownership).extent) from in
    let behind = ap (λ (x : of.Extent). x.end) paths in
    let families = c.table_of-families_read.ensures ∙ ap (λ at. (section_is at c.in_ok-signature.signature).extent) behind in
    let e = all_read a.header_rev rooms a.code.now (sym c.in_ok-strings_read.ensures.result_value) (sym c.in_ok-debug.ensures)
    (sym (rw from at c.in_ok-ownership.ensures.result_value)) (sym (rw (third, behind) at c.in_ok-signature.ensures)) in
    record {
      answer =
          rw (
            c.is_some-2.ensures ∙ found_is c.in_ok-strings_read.strings_read.end c.in_ok-debug.debug,
            c.is_some-3.ensures ∙ found_is at c.in_ok-ownership.ownership,
            c.is_some-4.ensures ∙ found_is (section_is at c.in_ok-ownership.ownership).extent.end c.in_ok-signature.signature,
            ap (λ (x : of.Extent). x.count) c.table_of-symbols_read.ensures,
            ap (λ (x : of.Extent). x.start) c.table_of-symbols_read.ensures,
            ap (λ (x : of.Extent). x.count) paths,
            ap (λ (x : of.Extent). x.count) families,
            ap (λ (x : of.Extent). x.start) families,
            ap (λ (x : of.Extent). x.end) families,
          ) (sym e.0);
      of_strings = rw e.1 c.in_ok-strings_read.ensures.lies;
      of_paths = rw e.2 (rw from at c.in_ok-ownership.ensures.lies);
    }
