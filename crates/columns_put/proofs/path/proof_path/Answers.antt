-- From the text on by where the column stands.
use Prim.Native.Nat.{ℕ}
use mathlib.Core.List.{List}
use native.Mathlib.Omega.{arith}
use Rattle.columns_put.proofs.PathLaws.{proof_behind}
use Rattle.columns_put.proofs.path.proof_path.Goals as goal

pub returns-in_default : goal.returns-in_default
returns-in_default c =
    λ (b : List ℕ) (s : ℕ). proof_behind b s c.args.column (omega arith) (omega arith)
