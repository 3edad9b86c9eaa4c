-- The table ends within the payload, and so does each witness of it.
use Prim.Native.Nat.{◌+◌, ◌*◌, ◌≤◌}
use native.Mathlib.Omega.{arith}
use mathlib.Core.Path.{refl}
use Rattle.evr0_pass.specs.Maps.{layout_out}
use Rattle.evr0_pass.proofs.ViewLaws.{witness_inside}
use Rattle.evr0_pass.proofs.pass.witness_start.Goals as goal

pub overflow_mul-result : goal.overflow_mul-result
overflow_mul-result c =
    let inside : let a = c.args in a.tables.witnesses_at + a.tables.witness_size * a.witness + a.tables.witness_size ≤ a.len =
    witness_inside (layout_out c.args.tables) c.requires.0 c.args.witness c.requires.1 in
    omega (arith, inside)

pub overflow_add-result : goal.overflow_add-result
overflow_add-result c =
    let inside : let a = c.args in a.tables.witnesses_at + a.tables.witness_size * a.witness + a.tables.witness_size ≤ a.len =
    witness_inside (layout_out c.args.tables) c.requires.0 c.args.witness c.requires.1 in
    omega (arith, inside)

pub returns : goal.returns
returns c =
    let inside : let a = c.args in a.tables.witnesses_at + a.tables.witness_size * a.witness + a.tables.witness_size ≤ a.len =
    witness_inside (layout_out c.args.tables) c.requires.0 c.args.witness c.requires.1 in
    (refl, omega (arith, c.requires.0.size, inside))
