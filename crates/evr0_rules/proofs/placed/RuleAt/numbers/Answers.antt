-- The four bytes after the name.
use Prim.Native.Nat.{ℕ, ◌+◌}
use mathlib.Core.List.{List}
use Rattle.local_format.specs.Field.{le}
use Rattle.local_format.proofs.FieldLaws.{le_1}
use Rattle.rule_table.specs.Load.{rule_in}
use Rattle.evr0_rules.proofs.placed.RuleAt.numbers.Goals as goal

pub returns : goal.returns
unfolding rule_in
returns c =
    let t : List ℕ = c.args.self.table.now in
    let n : ℕ = c.args.self.at + 2 + le 2 t c.args.self.at in
    rw (c.le_at.ensures, le_1 t n, le_1 t (n + 1), le_1 t (n + 2), le_1 t (n + 3))
