-- Each turn is one step of the definition: what is answered from the cell reached on is the whole answer.
use Prim.Native.Nat.{ℕ, ◌-◌, ◌≤◌}
use mathlib.Core.Path.{◌≡◌}
use mathlib.Core.List.{List}
use lib.ListN.{take}
use borrow.Author.Rules.{rules}
use Rattle.local_format.specs.Out.{Out}
use Rattle.derivation.specs.Rule.{Rule}
use Rattle.derivation.specs.Pass as pass
use Rattle.evr0_pass.specs.declared.pass.Tables.{Tables}
use Rattle.evr0_pass.specs.declared.pass.SettledProof.{SettledProof}
use Rattle.evr0_pass.specs.Maps.{proof_out}
use Rattle.evr0_pass.specs.Tables.{tables_by}
use Rattle.evr0_pass.proofs.pass.Tables.parents_from.Given as goal

abbrev pub from : List Rule → Rule → Tables → List ℕ → SettledProof → ℕ → ℕ → ℕ → ℕ → Out ℕ
from rules rule tables depths proof =
    pass.parents_from tables.layout.parents_at (tables_by rules tables) (proof_out rule proof) (take proof.proof_id.0 depths)

abbrev pub invariant-loop-cell : goal.invariant-loop-cell
invariant-loop-cell l = (l.end ≤ l.self.layout.counts.parents)
    × ((rules : List Rule) (rule : Rule) → from rules rule l.self l.depths l.proof (l.end - l.cell) l.cell l.least l.deepest
    ≡ from rules rule l.self l.depths l.proof l.proof.parent_count l.proof.parent_first 0 0)
