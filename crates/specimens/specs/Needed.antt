-- What the conditions of Slip 7 are needed for: a payload cut in one of two files, and 14 and 15 asked before 12 and 13.
use Rattle.std.specs.Prelude.{ℕ, ◌+◌, List, [], ◌∷◌, ◌++◌, length, take, leb}
use Rattle.local_format.specs.Out.{Out, check, ◌>>=◌}
use Rattle.evr0_section.specs.Head.{head_of, sizes, witness_memory}
use Rattle.specimens.specs.Build.{number, each, framed}
use Rattle.specimens.specs.EvidenceSpecimens.{none}
use Rattle.specimens.specs.Written.{all}

-- specimen 1 with every free byte 0, the shortest section that is accepted; and without its last byte, which is 0
abbrev pub whole_file : List ℕ
whole_file = framed (none (all 0))

abbrev pub cut_file : List ℕ
cut_file = take 99 whole_file

-- the payload of specimen 1 with other counts
abbrev pub counted : ℕ → ℕ → ℕ → ℕ → List ℕ
counted propositions proofs witnesses parents = take 76 (none (all 0)) ++ each (number 4) (propositions ∷ proofs ∷ witnesses ∷ parents ∷ [])

-- 14 and 15, each asked right after the counts
unfoldable pub ask14 : List ℕ → Out (Unit {0})
ask14 p = do
  h ← head_of p
  check (leb (length p + sizes h.counts 40 64 (witness_memory h.schema) 4) 16777216) 14 h.next

unfoldable pub ask15 : List ℕ → Out (Unit {0})
ask15 p = do
  h ← head_of p
  check (leb (length p + sizes h.counts 1 1 1 1) 8388608) 15 h.next
