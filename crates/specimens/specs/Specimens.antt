-- The twelve specimens of document 01, in one table: sections at cursor 0, and blocks at a base.
use Rattle.std.specs.Prelude.{ℕ, List, map, ◌++◌}
use Rattle.specimens.specs.Build.{Free}
use Rattle.specimens.specs.EvidenceSpecimens as evr0
use Rattle.specimens.specs.FunctionSpecimens as semcode

pub data Specimen : Type 0 where
  section : evr0.Specimen → Specimen
  block : semcode.Specimen → Specimen

-- a specimen with the answer of the definitions, at any base
abbrev pub answered : ℕ → Specimen → Specimen
answered base (section x) = section (evr0.answered x)
answered base (block x) = block (semcode.answered base x)

-- what they leave free is any: the free bytes of 1 to 8, the base of 9 to 12, the revision of 9 and 11, and those of 10
unfoldable pub specimens : Free → ℕ → ℕ → ℕ → ℕ → ℕ → List Specimen
specimens free byte base revision low high = map section (evr0.specimens free byte) ++ map block (semcode.specimens base revision low high)
