-- *Authorised*, as document 02 has it (Slip 6), in place of document 01: some proof of the proposition has operation 1 and mark 1.
use Rattle.std.specs.Prelude.{ℕ, Bool, false, ◌||◌, ◌&&◌, List, [], ◌∷◌, eqb}
use Rattle.derivation.specs.Section.{Proof, Section}
use Rattle.derivation.specs.Mark.{marks}

-- some of the proofs is one of this proposition, with operation 1 and mark 1; ms are their marks
unfoldable pub operates : List Proof → List ℕ → ℕ → Bool
operates [] ms n = false
operates (p ∷ ps) [] n = false
operates (p ∷ ps) (m ∷ ms) n = eqb p.proposition n && (eqb p.operation 1 && eqb m 1) || operates ps ms n

unfoldable pub authorised : Section → ℕ → Bool
authorised s n = operates s.proofs (marks s) n
