-- Roots with a source set, and what held before there was one. Document 02, Slip 10.
use Rattle.std.specs.Prelude.{ℕ, List, Bool, ◌&&◌, eqb}
use Rattle.local_format.specs.Tag.{equal}
use Rattle.lock_rules.specs.Lock.{Lock}
use Rattle.lock_rules.specs.Register.{Step, claims, releases}

pub record Root : Type 0 where
  pub symbol : ℕ
  pub source : List ℕ

unfoldable pub same_root : Root → Root → Bool
same_root a b = eqb a.symbol b.symbol && equal a.source b.source

-- a symbol under a claim's source set
abbrev pub root_under : List ℕ → ℕ → Root
root_under source symbol = record { symbol = symbol; source = source }

-- ---- Before: a root was its symbol

-- a lock with its set forgotten
abbrev pub forgets : Lock Root → Lock ℕ
forgets l = record { owner = l.owner; write = l.write; root = l.root.symbol; parts = l.parts }

-- a lock and a step of before, under a set
abbrev pub lock_under : List ℕ → Lock ℕ → Lock Root
lock_under source l = record { owner = l.owner; write = l.write; root = root_under source l.root; parts = l.parts }

abbrev pub step_under : List ℕ → Step ℕ → Step Root
step_under source (claims root_of owner decoded) = claims (λ n. root_under source (root_of n)) owner decoded
step_under source (releases owner) = releases owner
