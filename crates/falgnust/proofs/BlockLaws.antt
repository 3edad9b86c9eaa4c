-- What is told of a block with its words is told as a flat struct: its map over the answer, with the table as it was left.
use Rattle.std.specs.Prelude.{◌≡◌, ℕ, List}
use mathlib.Core.Path.{ap, ◌∙◌}
use Rattle.local_format.specs.Out.{Out}
use Rattle.path_words.specs.Blocks.{Worded, Puts}

pub mapped : {A B : Type 0} (f : A → B) {tell : Out Worded → A} {base revision : ℕ} {s before after : List ℕ} {told : A} {r : B}
    → Puts tell base revision s before after told → r ≡ f told → Puts (λ x. f (tell x)) base revision s before after r
mapped f p e = record { answer = e ∙ ap f p.answer; table = p.table }
