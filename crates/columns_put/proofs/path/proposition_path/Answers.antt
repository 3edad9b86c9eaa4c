-- Behind the text by where the column stands.
use Prim.Native.Nat.{ℕ}
use mathlib.Core.List.{List}
use native.Mathlib.Omega.{arith}
use Rattle.columns_put.proofs.PathLaws.{proposition_behind}
use Rattle.columns_put.proofs.path.proposition_path.Goals as goal

pub returns-in_default : goal.returns-in_default
returns-in_default c =
    λ (b : List ℕ) (s : ℕ). proposition_behind b s c.args.column (λ e. omega (arith, e)) c.requires
