-- Counts within their limits.
use Rattle.std.specs.Prelude.{◌≤◌}
use Rattle.evr0_section.specs.Head.{Counts}

-- the counts are within their limits
pub record Limited (c : Counts) : Type 0 where
  pub propositions : c.propositions ≤ 65536
  pub proofs : c.proofs ≤ 65536
  pub witnesses : c.witnesses ≤ 262144
  pub parents : c.parents ≤ 262144
