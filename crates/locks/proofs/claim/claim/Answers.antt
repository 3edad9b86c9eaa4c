-- Meets its contract: the block first, then its paths; the tables are cleared where these are refused.
use borrow.Author.Rules.{rules}
use mathlib.Core.Path.{◌≡◌, refl}
use Rattle.std.specs.Prelude.{Err}
use Rattle.local_format.specs.Maps.{answer_out}
use Rattle.semcode_decode.specs.Layout.{Lent, tables}
use Rattle.lock_words.specs.Maps.{source_is}
use Rattle.locks.proofs.BlockLaws.{tried_first, told_err, told_ok, block_refused, starts_room, paths_held, paths_refused, of_set}
use Rattle.locks.proofs.claim.claim.Goals as goal

pub returns-in_err-parsed : goal.returns-in_err-parsed
returns-in_err-parsed c =
    let a = c.args in
    let brought : Lent = tables a.strings.now a.paths.now a.families.now in
    let l = c.parse_block.new in
    let left : Lent = tables l.strings l.paths l.families in
    let e : c.from_residual.result ≡ Err c.in_err-parsed.field-0.0 = search rules in
    rw e (block_refused a.source.now a.owner a.base_offset a.header_rev a.code.now a.register.now brought left c.in_err-parsed.ensures refl refl)

pub returns-then-is_err : goal.returns-then-is_err
returns-then-is_err c =
    let a = c.args in
    let brought : Lent = tables a.strings.now a.paths.now a.families.now in
    let l = c.parse_block.new in
    let left : Lent = tables l.strings l.paths l.families in
    let set = source_is c.source_words.result in
    let kept = c.parse_block.auto in
    let answer = answer_out (λ n. n) c.take-answer.result in
    let d = c.in_ok-parsed.ensures in
    let room = starts_room set a.owner a.base_offset a.header_rev a.code.now a.register.now brought left d refl in
    let tried = tried_first a.header_rev a.code.now l.paths _ set a.owner answer a.register.now c.take-answer.new.register room c.take-answer.ensures in
    let (r, e) = told_err c.take-answer.result c.if-is_err.ensures.value in
    of_set a.owner a.base_offset a.header_rev a.code.now a.register.now brought c.source_words.ensures
    (paths_refused set a.owner a.base_offset a.header_rev a.code.now a.register.now brought left d refl answer _ tried _ e
    c.clear.ensures c.clear-then-is_err.ensures c.clear-then-is_err-2.ensures kept.strings kept.paths kept.families)

pub returns-else-is_err : goal.returns-else-is_err
returns-else-is_err c =
    let a = c.args in
    let brought : Lent = tables a.strings.now a.paths.now a.families.now in
    let l = c.parse_block.new in
    let left : Lent = tables l.strings l.paths l.families in
    let set = source_is c.source_words.result in
    let answer = answer_out (λ n. n) c.take-answer.result in
    let d = c.in_ok-parsed.ensures in
    let room = starts_room set a.owner a.base_offset a.header_rev a.code.now a.register.now brought left d refl in
    let tried = tried_first a.header_rev a.code.now l.paths _ set a.owner answer a.register.now c.take-answer.new.register room c.take-answer.ensures in
    let (n, e) = told_ok c.take-answer.result c.if-is_err.ensures.value in
    rw e (of_set a.owner a.base_offset a.header_rev a.code.now a.register.now brought c.source_words.ensures
    (paths_held set a.owner a.base_offset a.header_rev a.code.now a.register.now brought left d refl answer _ tried e))
