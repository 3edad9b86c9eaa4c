-- Where the rules of a table are, and what they are where no two have one name.
use Prim.Native.Nat.{ℕ, ◌+◌, ◌≤◌, ◌<◌}
use mathlib.Core.List.{List, map, Memᴰ}
use lib.ListN.{length, get_or}
use Rattle.local_format.specs.Field.{le}
use Rattle.derivation.specs.Rule as rules
use Rattle.rule_table.specs.Load.{rule_in, Distinct, Allowed}

-- each rule that starts at these places lies in the table
abbrev pub StartsThere : List ℕ → List ℕ → Type 0
StartsThere t starts = (i : ℕ) → i < length starts → get_or starts i 0 + 6 + le 2 t (get_or starts i 0) ≤ length t

-- the rules lie in the table, no two have one name, and each is one that a table may hold
pub record RulesThere (t places : List ℕ) : Type 0 where
  pub starts : StartsThere t places
  pub distinct : Distinct (map (rule_in t) places)
  pub allowed : (r : rules.Rule) → Memᴰ r (map (rule_in t) places) → Allowed r
