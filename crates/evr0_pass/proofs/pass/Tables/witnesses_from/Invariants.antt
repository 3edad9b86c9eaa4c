-- Each turn is one step of the definition: what is answered from the witness reached on is the whole answer.
use Prim.Native.Nat.{ℕ, ◌-◌, ◌≤◌}
use mathlib.Core.Path.{◌≡◌}
use mathlib.Core.List.{List}
use borrow.Author.Rules.{rules}
use Rattle.local_format.specs.Out.{Out}
use Rattle.derivation.specs.Rule.{Rule}
use Rattle.derivation.specs.Pass as pass
use Rattle.evr0_pass.specs.declared.pass.Tables.{Tables}
use Rattle.evr0_pass.specs.declared.pass.SettledProof.{SettledProof}
use Rattle.evr0_pass.specs.Maps.{proof_out}
use Rattle.evr0_pass.specs.Tables.{tables_by}
use Rattle.evr0_pass.proofs.pass.Tables.witnesses_from.Given as goal

abbrev pub from : List Rule → Rule → Tables → SettledProof → ℕ → ℕ → Out (Unit {0})
from rules rule tables proof = pass.witnesses_from tables.layout.parents_at (tables_by rules tables) (proof_out rule proof)

abbrev pub invariant-loop-witness : goal.invariant-loop-witness
invariant-loop-witness l = (l.end ≤ l.self.layout.counts.witnesses)
    × ((rules : List Rule) (rule : Rule)
    → from rules rule l.self l.proof (l.end - l.witness) l.witness
    ≡ from rules rule l.self l.proof l.proof.witness_count l.proof.witness_first.0)
