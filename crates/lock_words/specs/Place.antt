-- Words put in a lock's place among a register's words.
use Rattle.std.specs.Prelude.{◌≡◌, ℕ, List, length, get_or}
use Rattle.lock_words.specs.Words.{slot}

-- one lock has been given other words, and nothing else is changed: neither the other locks nor the first word
pub record Placed (words after : List ℕ) (lock : ℕ) (ws : List ℕ) : Type 0 where
  pub here : slot after lock ≡ ws
  pub others : (j : ℕ) → (j ≡ lock → ⊥) → slot after j ≡ slot words j
  pub first : get_or after 0 0 ≡ get_or words 0 0
  pub same : length after ≡ length words
