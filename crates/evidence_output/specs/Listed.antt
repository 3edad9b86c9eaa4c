-- The lines of proofs whose records start at given places of a payload.
use Rattle.std.specs.Prelude.{ℕ, List, [], ◌∷◌, ◌++◌, drop}
use Rattle.local_format.specs.Out.{Out, ok, refused}
use Rattle.evr0_section.specs.Rows.{Sized}
use Rattle.evr0_section.specs.Proof.{ProofRecord, proof_of}
use Rattle.evidence_output.specs.Output.{proof_line}

-- the line of a record that was read; none where it is refused
abbrev pub record_line : Out (Sized ProofRecord) → ℕ → List ℕ
record_line (ok r) depth = proof_line r.item depth
record_line (refused r) depth = []

-- a line for each start and depth
unfoldable pub lines_at : List ℕ → List ℕ → List ℕ → List ℕ
lines_at p [] ds = []
lines_at p (s ∷ ss) [] = []
lines_at p (s ∷ ss) (d ∷ ds) = record_line (proof_of (drop s p)) d ++ lines_at p ss ds
