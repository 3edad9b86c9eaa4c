-- The rule at which the tree ends has the name, and no other has it.
use mathlib.Core.Path.{sym, ◌∙◌}
use Rattle.std.proofs.Math.Logic.{∥∥₁_elim}
use Rattle.std.proofs.Props.{props}
use Rattle.evr0_rules.proofs.NameLaws.{known_at, found_any}
use Rattle.evr0_rules.proofs.settle.LoadedTable.rule_named.Goals as goal

pub returns-then-has_name : goal.returns-then-has_name
returns-then-has_name c =
    let (table, at) = c.rule-rule.ensures in
    let named = rw (table, at) at c.has_name.ensures in
    let numbers = rw (table, at) at c.numbers.ensures in
    let e = sym named ∙ c.if-has_name.true in
    ∥∥₁_elim c.args.self.told (Prim.hlevel props) (λ there.
    known_at _ _ _ _ e numbers ∙ found_any _ _ _ _ there.distinct c.if-number-self.true e)
