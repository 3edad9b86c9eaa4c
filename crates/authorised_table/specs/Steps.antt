-- The pass over the proofs.
use Rattle.std.specs.Prelude.{ℕ, cond, ◌&&◌, List, [], ◌∷◌, eqb, set}
use Rattle.derivation.specs.Section.{Proof}

-- a proof with operation 1 and mark 1 flags its proposition
abbrev pub flagged : Proof → ℕ → List ℕ → List ℕ
flagged p mark flags = cond (eqb p.operation 1 && eqb mark 1) (set flags p.proposition 1) flags

-- the proofs one after the other, with their marks
unfoldable pub flagged_by : List Proof → List ℕ → List ℕ → List ℕ
flagged_by [] ms flags = flags
flagged_by (p ∷ ps) [] flags = flags
flagged_by (p ∷ ps) (m ∷ ms) flags = flagged_by ps ms (flagged p m flags)
