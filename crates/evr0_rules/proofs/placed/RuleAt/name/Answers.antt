-- The bytes between the length and the numbers.
use Prim.Native.Nat.{ℕ, ◌+◌, ◌-◌}
use mathlib.Core.Path.{◌≡◌, ap}
use native.Mathlib.Omega.{arith}
use lib.ListN.{take, drop}
use Rattle.local_format.specs.Field.{le}
use Rattle.rule_table.specs.Load.{rule_in}
use Rattle.evr0_rules.proofs.placed.RuleAt.name.Goals as goal

pub returns : goal.returns
unfolding rule_in
returns c =
    let a = c.args.self in
    let e : a.at + 2 + c.le_at.result - (a.at + 2) ≡ le 2 a.table.now a.at = omega (arith, c.le_at.ensures) in
    ap (λ (k : ℕ). take k (drop (a.at + 2) a.table.now)) e
