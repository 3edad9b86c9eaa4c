-- Where the tag is there and the count is read, by the walk over the paths.
use Rattle.std.proofs.Common.{◌≡◌, arith, rules, sym, ◌∙◌}
use mathlib.Core.Bool.{true}
use lib.Dec.{leb}
use borrow.Author.Tests.{le-leb}
use Rattle.local_format.specs.Tag.{own0}
use Rattle.local_format.proofs.OutLaws.{ok_same, bind_ok}
use Rattle.local_format.proofs.TagLaws.{tag_there}
use Rattle.semcode_records.specs.Records.{records}
use Rattle.semcode_records.specs.Path.{Path, path_at}
use Rattle.semcode_decode.specs.Block.{path_table, section_at}
use Rattle.semcode_decode.proofs.SignatureLaws.{extent_refused}
use Rattle.semcode_decode.proofs.TableLaws.{extent_ends}
use Rattle.path_words.specs.Words.{path_words}
use Rattle.path_words.proofs.BlockLaws.{ends_places, adds_places, adds_none, table_refused, tagged_found}
use Rattle.path_words.proofs.block.put_paths.Goals as goal

pub returns-then-not-tag_at-clause-adds : goal.returns-then-not-tag_at-clause-adds
unfolding section_at
returns-then-not-tag_at-clause-adds c d h =
    let absent = rw (← c.if-not-tag_at.ensures) at h in
    rw (← ok_same absent) (adds_none Path (path_words c.args.header_rev c.args.code.now) c.args.at c.args.from c.args.words.now)

pub overflow_add-count_at : goal.overflow_add-count_at
overflow_add-count_at c =
    let h = tag_there own0 c.args.code.now c.args.at (sym c.if-not-tag_at.ensures) in
    record { fits = omega arith }

pub returns-in_err-put-clause-table : goal.returns-in_err-put-clause-table
unfolding section_at path_table
returns-in_err-put-clause-table c =
    let read = path_at c.args.header_rev c.args.code.now in
    let few : leb c.in-Some.field-0.value 65535 ≡ true = le-leb _ _ (search rules) in
    let e = table_refused _ (extent_refused _ (sym (c.in_err-put.ensures.next ∙ ends_places read _ _))) in
    rw (← c.if-not-tag_at.ensures, ← c.in-Some.ensures, few, e) (search rules)

pub returns-clause-table : goal.returns-clause-table
unfolding section_at path_table
returns-clause-table c =
    let read = path_at c.args.header_rev c.args.code.now in
    let few : leb c.in-Some.field-0.value 65535 ≡ true = le-leb _ _ (search rules) in
    let e = extent_ends read _ _ (sym (c.in_ok-put.ensures.next ∙ ends_places read _ _)) in
    rw (← c.if-not-tag_at.ensures, ← c.in-Some.ensures, few) (tagged_found _ e)

pub returns-clause-adds : goal.returns-clause-adds
unfolding section_at path_table
returns-clause-adds c d h =
    let read = path_at c.args.header_rev c.args.code.now in
    let few : leb c.in-Some.field-0.value 65535 ≡ true = le-leb _ _ (search rules) in
    let there = rw (← c.if-not-tag_at.ensures, ← c.in-Some.ensures, few) at h in
    let (t, e, same) = bind_ok (records read c.in-Some.field-0.value c.in-Some.field-0.next) _ there in
    rw (← ok_same same) (adds_places read _ _ (path_words c.args.header_rev c.args.code.now) _ _ _ _ c.in_ok-put.ensures.adds t e)
