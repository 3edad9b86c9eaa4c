-- The rules, the columns, the output's length and the decoder, by `TakeLaws`.
use mathlib.Core.Path.{refl, sym}
use native.Mathlib.Omega.{arith}
use Rattle.rule_table.specs.ByTable.{Given}
use Rattle.evr0_rules.specs.Maps.{given_out}
use Rattle.columns_take.proofs.TakeLaws.{no_rules, no_columns, too_short, rebuilt_there}
use Rattle.columns_take.proofs.take.take_columns.Goals as goal

pub returns-in-Err : goal.returns-in-Err
returns-in-Err c =
    let given : Given = given_out c.args.rules in
    no_rules given c.args.columns.now (sym c.in-Err.ensures) c.refuse_all.ensures

pub returns-in-Err-rebuild : goal.returns-in-Err-rebuild
returns-in-Err-rebuild c =
    let given : Given = given_out c.args.rules in
    let (none, zeros) = c.in-Err-rebuild.ensures in
    no_columns given c.args.columns.now (sym c.in_default.ensures) none
    (record {
      answer = refl;
      output = zeros;
      tables = record { propositions = c.clear.ensures; proofs = c.clear-in-Err-rebuild.ensures; depths = c.clear-in-Err-rebuild-2.ensures };
    })

pub returns-then-output-len : goal.returns-then-output-len
returns-then-output-len c =
    let given : Given = given_out c.args.rules in
    too_short given c.args.columns.now (sym c.in_default.ensures) c.rebuild.auto.out c.in-Ok.ensures c.if-output-len.true c.refuse.ensures
    c.refuse_all-then-output-len.ensures

pub returns-else-output-len : goal.returns-else-output-len
returns-else-output-len c =
    let given : Given = given_out c.args.rules in
    rebuilt_there given c.args.columns.now (sym c.in_default.ensures) c.rebuild.auto.out c.in-Ok.ensures c.if-output-len.false (omega arith)
    c.decode_rebuilt.ensures
