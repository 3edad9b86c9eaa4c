-- Where the count is read and there is room for it, by the walk over the strings.
use Rattle.std.proofs.Common.{rules, sym, ◌∙◌}
use Rattle.local_format.proofs.OutLaws.{check_ok}
use Rattle.semcode_decode.specs.Block.{string_record, string_table}
use Rattle.semcode_decode.proofs.SignatureLaws.{extent_refused}
use Rattle.semcode_decode.proofs.TableLaws.{extent_ends}
use Rattle.path_words.specs.Blocks.{string_words}
use Rattle.path_words.proofs.BlockLaws.{ends_places, adds_places}
use Rattle.path_words.proofs.block.put_strings.Goals as goal

pub returns-in_err-put-clause-table : goal.returns-in_err-put-clause-table
unfolding string_table
returns-in_err-put-clause-table c =
    let few = check_ok _ _ _ (sym c.in_ok-check.ensures) in
    let e = extent_refused _ (sym (c.in_err-put.ensures.next ∙ ends_places (string_record c.args.code.now) _ _)) in
    rw (← c.in-Some.ensures, few, e) (search rules)

pub returns-clause-table : goal.returns-clause-table
unfolding string_table
returns-clause-table c =
    let few = check_ok _ _ _ (sym c.in_ok-check.ensures) in
    let e = extent_ends (string_record c.args.code.now) _ _ (sym (c.in_ok-put.ensures.next ∙ ends_places (string_record c.args.code.now) _ _)) in
    rw (← c.in-Some.ensures, few, e) (search rules)

pub returns-clause-adds : goal.returns-clause-adds
unfolding string_table
returns-clause-adds c t h =
    let few = check_ok _ _ _ (sym c.in_ok-check.ensures) in
    adds_places (string_record c.args.code.now) _ _ (string_words c.args.code.now) _ _ _ _ c.in_ok-put.ensures.adds t (rw (← c.in-Some.ensures, few) at h)
