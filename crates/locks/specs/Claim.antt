-- What a claim promises of a register's words, and of the lent tables.
use Rattle.std.specs.Prelude.{◌≡◌, ℕ, List}
use Rattle.local_format.specs.Out.{Out, ok, refused, ◌>>◌}
use Rattle.semcode_decode.specs.Block.{Block}
use Rattle.semcode_decode.specs.Layout.{Lent, Leaves}
use Rattle.semcode_decode.specs.Number.{decode_anew}
use Rattle.lock_rules.specs.Lock.{Lock}
use Rattle.lock_rules.specs.Register.{held_count, claim}
use Rattle.lock_rules.specs.Source.{Root, same_root, root_under}
use Rattle.lock_words.specs.Words.{locks_in}

-- the locks held after a claim of a block's paths, under a source set
abbrev pub claim_in : List ℕ → ℕ → List ℕ → Out Block → Out (List (Lock Root))
claim_in source owner words block = claim same_root (root_under source) owner (locks_in words) block

-- the register afterwards: an accepted claim's locks; a refused one leaves every word
abbrev pub Left : Out (List (Lock Root)) → List ℕ → List ℕ → Type 0
Left (ok locks) words after = locks_in after ≡ locks
Left (refused r) words after = after ≡ words

-- what a claim leaves: the answer that is due, how many locks are held afterwards; in the lent tables the block's starts and families, and zeros
-- after any refusal; and the register
pub record Claimed {A : Type 0} (due : Out ℕ → A) (block : Out Block) (locks : Out (List (Lock Root))) (words words' : List ℕ) (before after : Lent)
    (told : A) : Type 0 where
  pub tables : Leaves (locks >> block) before after told (due (held_count locks))
  pub register : Left locks words words'

-- an owner claims the paths of a block at a base, under a source set, and this is told of it
abbrev pub Claims : {A : Type 0} → (Out ℕ → A) → List ℕ → ℕ → ℕ → ℕ → List ℕ → List ℕ → List ℕ → Lent → Lent → A → Type 0
Claims due source owner base revision code words words' before after told =
    let block = decode_anew base revision code before in
    Claimed due block (claim_in source owner words block) words words' before after told
