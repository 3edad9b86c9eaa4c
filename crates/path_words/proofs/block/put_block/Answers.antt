-- By the law of the block for each table at which it can end, and by the words of all four.
use Rattle.std.specs.Prelude.{Option, Some, None}
use Rattle.std.specs.Option.{is_some}
use Rattle.std.proofs.Common.{◌≡◌, ℕ, ap, sym, ◌∙◌, rules, refl}
use Rattle.local_format.specs.Maps.{refusal_out, answer_out}
use Rattle.local_format.specs.Out.{refused}
use Rattle.local_format.proofs.OutLaws.{check_ok}
use Rattle.semcode_decode.specs.declared.table.Table.{Table}
use Rattle.semcode_decode.specs.Maps.{section_is}
use Rattle.semcode_decode.specs.Layout as of
use Rattle.semcode_decode.proofs.BlockLaws.{strings_refused, debug_refused, ownership_refused, signature_refused, all_read}
use Rattle.path_words.specs.Blocks.{every_room}
use Rattle.path_words.specs.BlockMaps.{worded_is}
use Rattle.path_words.proofs.BlockLaws.{check_refused, put_refused, put_full, put_whole, all_put}
use Rattle.path_words.proofs.block.put_block.Goals as goal

found_is : (at : ℕ) (o : Option Table) → is_some o ≡ (section_is at o).found
found_is at (Some t) = refl
found_is at None = refl

pub returns-in_err-strings : goal.returns-in_err-strings
returns-in_err-strings c =
    let a = c.args in
    put_refused _ _ _ _ (strings_refused a.header_rev every_room a.code.now (sym c.in_err-strings.ensures.table)) (search rules)

pub returns-in_err-symbols : goal.returns-in_err-symbols
returns-in_err-symbols c =
    let a = c.args in
    put_refused _ _ _ _
    (debug_refused a.header_rev every_room a.code.now (sym c.in_ok-strings.ensures.table) (sym c.in_err-symbols.ensures.table)) (search rules)

pub returns-in_err-paths : goal.returns-in_err-paths
returns-in_err-paths c =
    let a = c.args in
    let from = ap (λ (x : of.Extent). x.end) c.table_of-symbols_read.ensures in
    put_refused _ _ _ _
    (ownership_refused a.header_rev every_room a.code.now (sym c.in_ok-strings.ensures.table) (sym c.in_ok-symbols.ensures.table)
    (sym (rw from at c.in_err-paths.ensures.table))) (search rules)

pub returns-in_err-signature : goal.returns-in_err-signature
returns-in_err-signature c =
    let a = c.args in
    let from = ap (λ (x : of.Extent). x.end) c.table_of-symbols_read.ensures in
    let at : ℕ = (section_is c.in_ok-strings.strings.table.end c.in_ok-symbols.symbols.table).extent.end in
    let third = c.is_some.ensures ∙ found_is at c.in_ok-paths.paths.table in
    let paths = c.table_of-paths_read.ensures ∙ ap (λ at. (section_is at c.in_ok-paths.paths.table).extent) from in
    let behind = ap (λ (x : of.Extent). x.end) paths in
    put_refused _ _ _ _
    (signature_refused a.header_rev every_room a.code.now (sym c.in_ok-strings.ensures.table) (sym c.in_ok-symbols.ensures.table)
    (sym (rw from at c.in_ok-paths.ensures.table)) (sym (rw (third, behind) at c.in_err-signature.ensures))) (search rules)

pub returns-in_err-check : goal.returns-in_err-check
returns-in_err-check c =
    let a = c.args in
    let from = ap (λ (x : of.Extent). x.end) c.table_of-symbols_read.ensures in
    let at : ℕ = (section_is c.in_ok-strings.strings.table.end c.in_ok-symbols.symbols.table).extent.end in
    let third = c.is_some.ensures ∙ found_is at c.in_ok-paths.paths.table in
    let paths = c.table_of-paths_read.ensures ∙ ap (λ at. (section_is at c.in_ok-paths.paths.table).extent) from in
    let behind = ap (λ (x : of.Extent). x.end) paths in
    let families = c.table_of-families_read.ensures ∙ ap (λ at. (section_is at c.in_ok-signature.signature).extent) behind in
    let e1 = sym c.in_ok-strings.ensures.table in
    let e2 = sym c.in_ok-symbols.ensures.table in
    let e3 = sym (rw from at c.in_ok-paths.ensures.table) in
    let e4 = sym (rw (third, behind) at c.in_ok-signature.ensures) in
    let put = all_put a.header_rev a.code.now a.words.now c.put_paths.new.words e1 c.in_ok-strings.ensures.adds e2 c.in_ok-symbols.ensures.adds
    e3 (rw from at c.in_ok-paths.ensures.adds) e4 in
    let full = check_refused _ _ _ c.in_err-check.ensures in
    let told : answer_out worded_is c.from_residual-in_err-check.result ≡ refused (refusal_out c.in_err-check.field-0.0) = search rules in
    put_full a.header_rev a.code.now a.words.now c.put_paths.new.words put.block put.is_block c.in_ok-paths.paths.words put.words
    (put.end ∙ sym (ap (λ (x : of.Extent). x.end) families)) full.0 (told ∙ ap refused full.1)

pub returns : goal.returns
returns c =
    let a = c.args in
    let from = ap (λ (x : of.Extent). x.end) c.table_of-symbols_read.ensures in
    let at : ℕ = (section_is c.in_ok-strings.strings.table.end c.in_ok-symbols.symbols.table).extent.end in
    let third = c.is_some.ensures ∙ found_is at c.in_ok-paths.paths.table in
    let paths = c.table_of-paths_read.ensures ∙ ap (λ at. (section_is at c.in_ok-paths.paths.table).extent) from in
    let behind = ap (λ (x : of.Extent). x.end) paths in
    let families = c.table_of-families_read.ensures ∙ ap (λ at. (section_is at c.in_ok-signature.signature).extent) behind in
    let e1 = sym c.in_ok-strings.ensures.table in
    let e2 = sym c.in_ok-symbols.ensures.table in
    let e3 = sym (rw from at c.in_ok-paths.ensures.table) in
    let e4 = sym (rw (third, behind) at c.in_ok-signature.ensures) in
    let read = all_read a.header_rev every_room a.code.now e1 e2 e3 e4 in
    let put = all_put a.header_rev a.code.now a.words.now c.put_paths.new.words e1 c.in_ok-strings.ensures.adds e2 c.in_ok-symbols.ensures.adds
    e3 (rw from at c.in_ok-paths.ensures.adds) e4 in
    put_whole a.header_rev a.code.now a.words.now c.put_paths.new.words put.block put.is_block c.in_ok-paths.paths.words put.words
    (rw (
      c.is_some-2.ensures ∙ found_is c.in_ok-strings.strings.table.end c.in_ok-symbols.symbols.table,
      c.is_some-3.ensures ∙ found_is at c.in_ok-paths.paths.table,
      c.is_some-4.ensures ∙ found_is (section_is at c.in_ok-paths.paths.table).extent.end c.in_ok-signature.signature,
      ap (λ (x : of.Extent). x.count) c.table_of-symbols_read.ensures,
      ap (λ (x : of.Extent). x.start) c.table_of-symbols_read.ensures,
      ap (λ (x : of.Extent). x.count) paths,
      ap (λ (x : of.Extent). x.count) families,
      ap (λ (x : of.Extent). x.start) families,
      ap (λ (x : of.Extent). x.end) families,
    ) read.0) (check_ok _ _ _ (sym c.in_ok-check.ensures))
