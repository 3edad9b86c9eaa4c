-- What the code asks of one proof.
use Rattle.std.specs.Prelude.{ℕ, Bool, ◌&&◌, eqb}
use Rattle.derivation.specs.Section.{Proof}

-- a proof with a mark has operation 1 and mark 1
abbrev pub operating : Proof → ℕ → Bool
operating p mark = eqb p.operation 1 && eqb mark 1

-- what one proof with a mark says of the proposition n
abbrev pub own : Proof → ℕ → ℕ → Bool
own p mark n = eqb p.proposition n && (eqb p.operation 1 && eqb mark 1)
