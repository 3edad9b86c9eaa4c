-- From the code's types to the definitions' types.
use Rattle.std.specs.Prelude.{ℕ, List, get_or}
use Rattle.lock_rules.specs.Lock as lock
use Rattle.lock_words.specs.Words.{source_of}
use Rattle.lock_words.specs.declared.words.Part.{Part}

abbrev pub part : ℕ → ℕ → ℕ → lock.Part
part k f s = record { kind = k; first = f; second = s }

abbrev pub part_is : Part → lock.Part
part_is p = part p.kind p.first p.second

-- four words
abbrev pub source_is : List ℕ → List ℕ
source_is s = source_of (get_or s 0 0) (get_or s 1 0) (get_or s 2 0) (get_or s 3 0)
