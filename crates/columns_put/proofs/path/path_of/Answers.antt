-- Meets its contract: table by table.
use mathlib.Core.List.{List}
use mathlib.Core.Path.{◌≡◌}
use Prim.Native.Nat.{ℕ}
use native.Mathlib.Omega.{arith}
use Rattle.columns_put.proofs.path.path_of.Goals as goal

-- Kept (8d): a lemma for the three would take the equation of the arm and the clause of the call, and each answer names both all the same.
pub proposition_path-requires : goal.proposition_path-requires
proposition_path-requires c =
    (rw c.in-Propositions.is at c.requires).1

pub proof_path-requires : goal.proof_path-requires
proof_path-requires c =
    (rw c.in-Proofs.is at c.requires).1

pub witness_path-requires : goal.witness_path-requires
witness_path-requires c =
    (rw c.in-Witnesses.is at c.requires).1

pub returns-in-Head : goal.returns-in-Head
returns-in-Head c =
    absurd (rw c.in-Head.is at c.requires).0

-- Kept (8d): each rewrites by its own arm's equation, which a lemma for the three would be given as well.
pub returns-in-Propositions : goal.returns-in-Propositions
returns-in-Propositions c =
    λ (b : List ℕ) (s : ℕ). (rw c.in-Propositions.is (c.proposition_path.ensures b s))

pub returns-in-Proofs : goal.returns-in-Proofs
returns-in-Proofs c =
    λ (b : List ℕ) (s : ℕ). (rw c.in-Proofs.is (c.proof_path.ensures b s))

pub returns-in-Witnesses : goal.returns-in-Witnesses
returns-in-Witnesses c =
    λ (b : List ℕ) (s : ℕ).
    (rw c.in-Witnesses.is (c.witness_path.ensures b s))

pub returns-in-Parents : goal.returns-in-Parents
returns-in-Parents c =
    λ (b : List ℕ) (s : ℕ).
    let h = (rw c.in-Parents.is at c.requires).1 in
    let e : c.args.column ≡ 0 = omega arith in
    (rw c.in-Parents.is (rw e (omega arith)))
