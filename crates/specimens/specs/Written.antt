-- A section with given tables, written as bytes and decoded by the definition; and what an example shows of it.
use Rattle.std.specs.Prelude.{ℕ, zero, suc, ◌≡◌, List, [], ◌∷◌}
use Rattle.local_format.specs.Out.{ok, refuse}
use Rattle.derivation.specs.Rule.{four_rules}
use Rattle.derivation.specs.Section.{Section}
use Rattle.derivation.specs.Walk.{Walk, Fails}
use Rattle.evr0_section.specs.Head.{Room}
use Rattle.evr0_section.specs.Section as evr0
use Rattle.evr0_section.specs.Section.{Tables, section_of, tables_at, decode_section}
use Rattle.specimens.specs.Build.{Free, proposition_bytes, payload, framed}

-- every free byte is this one
abbrev pub all : ℕ → Free
all b = record { source_set = λ i. b; compiler_contract = λ i. b; epoch = λ i. b; proposition = λ i. b; file_digest = λ i. b; origin_digest = λ i. b }

-- propositions of kind "k" that rise by their owner
unfoldable pub propositions_from : ℕ → ℕ → List (List ℕ)
propositions_from zero b = []
propositions_from (suc n) b = proposition_bytes (all b) ∷ propositions_from n (suc b)

unfoldable pub written : Section → List ℕ
written s = framed (payload (all 0) (propositions_from s.propositions 0) s.proofs s.witnesses s.parents)

abbrev pub enough : Room
enough = record { propositions = 300; proofs = 300; depths = 300 }

-- the tables all read and pass their own checks, and are those that were written
pub record Reads (s : Section) : Type 0 where
  pub tables : Tables
  pub read : tables_at four_rules enough (written s) 0 ≡ ok tables
  pub same : section_of tables ≡ s

-- the section is accepted with these depths
pub record Accepts (s : Section) (ds : List ℕ) : Type 0 where
  pub reads : Reads s
  pub decoded : evr0.Section
  pub accepted : decode_section enough (written s) 0 ≡ ok decoded
  pub same : section_of decoded.tables ≡ s
  pub depths : decoded.depths ≡ ds

-- the tables read, some walk of the section fails, and the section is refused with this number at this offset
pub record Refuses (s : Section) (number offset : ℕ) : Type 0 where
  pub reads : Reads s
  pub start : ℕ
  pub picks : List ℕ
  pub last : ℕ
  pub walk : Walk s start picks last
  pub fails : Fails s start picks
  pub refused : decode_section enough (written s) 0 ≡ refuse number offset
