-- A held lock and a part of it, by number.
use Rattle.std.specs.Prelude.{ℕ, List, Bool, length}
use Rattle.local_format.specs.Out.{Out, ok, ◌>>=◌}
use Rattle.local_format.specs.Number.{numbered}
use Rattle.lock_rules.specs.Lock.{Part, Lock}
use Rattle.lock_rules.specs.Source.{Root}

-- a lock read back: how many parts it has
pub record Head : Type 0 where
  pub owner : ℕ
  pub write : Bool
  pub root : Root
  pub count : ℕ

abbrev pub head_of : Lock Root → Head
head_of l = record { owner = l.owner; write = l.write; root = l.root; count = length l.parts }

-- 62: no such lock is held
abbrev pub lock_number : ℕ → List (Lock Root) → Out Head
lock_number n held = do
  l ← numbered n held
  ok (head_of l)

-- 62: no such lock is held, or it has no such part
abbrev pub part_number : ℕ → ℕ → List (Lock Root) → Out Part
part_number n k held = do
  l ← numbered n held
  numbered k l.parts
