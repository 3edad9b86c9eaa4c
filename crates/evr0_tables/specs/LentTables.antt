-- The lent tables of a section.
use Rattle.std.specs.Prelude.{ℕ, List, length}
use Rattle.evr0_section.specs.Head.{Room}

-- as they are brought, or as they are left
pub record Lent : Type 0 where
  pub propositions : List ℕ
  pub proofs : List ℕ
  pub depths : List ℕ

abbrev pub lent_of : List ℕ → List ℕ → List ℕ → Lent
lent_of propositions proofs depths = record { propositions = propositions; proofs = proofs; depths = depths }

-- their lengths
abbrev pub room_of : Lent → Room
room_of t =
    record { propositions = length t.propositions; proofs = length t.proofs; depths = length t.depths }
