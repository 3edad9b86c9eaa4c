-- Meets its contract: the fields in front, the place and the length of the text, and the fields behind, each after the ones before.
use Prim.Native.Nat.{◌+◌, ◌-◌, ◌*◌}
use mathlib.Core.Path.{sym, ◌∙◌}
use native.Mathlib.Omega.{arith}
use lib.Seq.{length-take-le}
use Rattle.record_words.proofs.Laws.{text_whole_lem, with_two, two_size, last_size, text_put}
use Rattle.record_words.proofs.TextsRecord.put.Goals as goal

pub put_fields-requires : goal.put_fields-requires
put_fields-requires g c =
    let t = text_whole_lem g.row.FRONT g.row.BACK c.args.bytes.now c.args.at c.in-Some.rest c.in-Some.ensures in
    let l = length-take-le g.row.FRONT c.args.words.now (omega arith) in
    omega (arith, t.after, t.inside)

pub put_fields-requires-2 : goal.put_fields-requires-2
put_fields-requires-2 g c =
    let t = text_whole_lem g.row.FRONT g.row.BACK c.args.bytes.now c.args.at c.in-Some.rest c.in-Some.ensures in
    let l = length-take-le g.row.FRONT c.args.words.now (omega arith) in
    let text = c.args.at + 4 * g.row.FRONT + 2 in
    let n = two_size g.row.FRONT c.args.words.now c.put_fields.new.words (c.put_fields.auto.words ∙ l) text (c.in-Some.rest - text) (omega arith) in
    let k = last_size (with_two g.row.FRONT c.args.words.now c.put_fields.new.words text (c.in-Some.rest - text)) (g.row.FRONT + 2) in
    omega (arith, t.after, t.inside)

pub returns : goal.returns
returns g c =
    let t = text_whole_lem g.row.FRONT g.row.BACK c.args.bytes.now c.args.at c.in-Some.rest c.in-Some.ensures in
    let l = length-take-le g.row.FRONT c.args.words.now (omega arith) in
    let text = c.args.at + 4 * g.row.FRONT + 2 in
    let n = two_size g.row.FRONT c.args.words.now c.put_fields.new.words (c.put_fields.auto.words ∙ l) text (c.in-Some.rest - text) (omega arith) in
    let k = last_size (with_two g.row.FRONT c.args.words.now c.put_fields.new.words text (c.in-Some.rest - text)) (g.row.FRONT + 2) in
    record {
      whole = sym t.whole;
      puts = λ _. text_put g.row.FRONT g.row.BACK c.args.bytes.now c.args.at c.in-Some.rest _ _ c.args.words.now _ _ t.after (omega arith)
          l c.put_fields.ensures (k ∙ omega arith) c.put_fields-2.ensures;
    }
