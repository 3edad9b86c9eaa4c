-- Bytes written into a lent list.
use Rattle.std.specs.Prelude.{ℕ, ◌+◌, ◌-◌, min, ◌≡◌, List, length}
use Rattle.std.proofs.lemmas.List.Edits.{sets}

-- `bytes` written into the list `before` from a place on, as far as it reaches: what it holds after, and the place after the last byte that it took
pub record Written (before : List ℕ) (at : ℕ) (bytes : List ℕ) (after : List ℕ) (next : ℕ) : Type 0 where
  pub holds : after ≡ sets before at bytes
  pub place : next ≡ at + min (length bytes) (length before - at)
