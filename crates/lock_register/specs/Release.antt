-- What a release promises of a register's words.
use Rattle.std.specs.Prelude.{◌≡◌, ℕ, List, length}
use Rattle.lock_rules.specs.Register.{release}
use Rattle.lock_words.specs.Words.{locks_in}

-- a release leaves the locks of the other owners, and tells how many these are
pub record Releases (owner : ℕ) (words words' : List ℕ) (told : ℕ) : Type 0 where
  pub register : locks_in words' ≡ release owner (locks_in words)
  pub answer : told ≡ length (locks_in words')
