-- What stands against a lock that is asked for: a key, which has the same 24 words.
use Rattle.std.specs.Prelude.{ℕ, List, Bool, ◌||◌}
use Rattle.lock_rules.specs.Lock.{Lock, begins, hinders}
use Rattle.lock_rules.specs.Register.{any}
use Rattle.lock_rules.specs.Source.{Root, same_root}
use Rattle.lock_words.specs.Words.{parts_in}

-- one's parts are the beginning of the other's
abbrev pub either_begins : List ℕ → List ℕ → Bool
either_begins a b = begins (parts_in a) (parts_in b) || begins (parts_in b) (parts_in a)

-- a lock among these that stands against another
abbrev pub met_by : Lock Root → List (Lock Root) → Bool
met_by key held = any (λ l. hinders same_root l key) held
