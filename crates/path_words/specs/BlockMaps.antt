-- From the code's structs for a block to the definitions' types.
use Rattle.std.specs.Prelude.{ℕ, Result, Ok, Err}
use Rattle.semcode_decode.specs.Maps.{layout_is}
use Rattle.path_words.specs.Blocks as of
use Rattle.path_words.specs.declared.Put.{Put}
use Rattle.path_words.specs.declared.block.WordedBlock.{WordedBlock}

abbrev pub next_is : Put → ℕ
next_is p = p.next

abbrev pub worded_is : WordedBlock → of.Worded
worded_is w = record { layout = layout_is w.parsed; words = w.words }

-- what holds of an answer that is none of a refusal
abbrev pub Where : {T E : Type 0} → (T → Type 0) → Result T E → Type 0
Where P (Ok t) = P t
Where P (Err e) = Unit {0}
