-- The section was read, so its records are read again, and none is refused.
use Rattle.std.proofs.Common.{arith, sym, ap, ◌∙◌}
use Rattle.local_format.proofs.OutLaws.{never}
use Rattle.semcode_records.specs.Symbol.{symbol_at}
use Rattle.semcode_decode.specs.Layout.{Extent}
use Rattle.path_words.specs.Blocks.{symbol_words}
use Rattle.path_words.proofs.BlockLaws.{ends_places, adds_places, found_symbols}
use Rattle.path_words.proofs.block.put_symbols.Goals as goal

pub put_all-requires : goal.put_all-requires
put_all-requires c =
    let f = found_symbols c.args.code.now c.args.at _ (sym c.in_ok-section.ensures) in
    let n = ap (λ (x : Extent). x.count) c.table_of-start.ensures in
    omega (arith, f.few, n, c.requires)

pub returns-in_err-put-clause-table : goal.returns-in_err-put-clause-table
returns-in_err-put-clause-table c =
    let f = found_symbols c.args.code.now c.args.at _ (sym c.in_ok-section.ensures) in
    let n = ap (λ (x : Extent). x.count) c.table_of-start.ensures in
    let m = ap (λ (x : Extent). x.start) c.table_of-start.ensures in
    let e = c.in_err-put.ensures.next ∙ ends_places (symbol_at c.args.code.now) _ _ in
    absurd (never (rw (n, m) at e ∙ f.ended))

pub returns-clause-adds : goal.returns-clause-adds
returns-clause-adds c d h =
    let f = found_symbols c.args.code.now c.args.at _ (sym c.in_ok-section.ensures) in
    let n = ap (λ (x : Extent). x.count) c.table_of-start.ensures in
    let m = ap (λ (x : Extent). x.start) c.table_of-start.ensures in
    adds_places (symbol_at c.args.code.now) _ _ (symbol_words c.args.code.now) _ _ _ _ c.in_ok-put.ensures.adds d.table (rw (n, m) (f.table d h))

pub returns-clause-few : goal.returns-clause-few
returns-clause-few c =
    let f = found_symbols c.args.code.now c.args.at _ (sym c.in_ok-section.ensures) in
    let n = ap (λ (x : Extent). x.count) c.table_of-start.ensures in
    omega (arith, f.few, n, c.in_ok-put.ensures.few)
