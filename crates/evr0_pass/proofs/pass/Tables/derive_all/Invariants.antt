-- Each turn is one step of the definition: the depths in the table, then those of the proofs from here on, are all depths.
use Prim.Native.Nat.{ℕ, ◌-◌, ◌≤◌}
use mathlib.Core.Path.{◌≡◌}
use mathlib.Core.List.{List}
use lib.ListN.{length, take, get_or}
use Rattle.derivation.specs.Rule.{Rule}
use Rattle.derivation.specs.Pass as pass
use Rattle.evr0_pass.specs.View.{PolaritiesThere}
use Rattle.evr0_pass.specs.Tables.{tables_by}
use Rattle.evr0_pass.proofs.pass.Tables.derive_all.Given as goal

abbrev pub invariant-loop-i : goal.invariant-loop-i
invariant-loop-i l = (length l.depths ≡ length l.initial.depths)
    × ((k : ℕ) → l.i ≤ k → get_or l.depths k 0 ≡ get_or l.initial.depths k 0)
    × ((rules : List Rule) → PolaritiesThere rules l.self.payload.now l.self.starts.now l.initial.depths
    → pass.depths_from l.self.layout.parents_at (tables_by rules l.self) (length l.self.starts.now - l.i) l.i (take l.i l.depths)
    ≡ pass.depths l.self.layout.parents_at (tables_by rules l.self))
