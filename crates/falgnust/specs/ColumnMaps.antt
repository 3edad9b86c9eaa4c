-- The flat struct of what writing the columns of a section and taking them back answer.
use Rattle.std.specs.Prelude.{ℕ, true, false}
use Rattle.local_format.specs.Out.{Out, ok, refused}
use Rattle.falgnust.specs.Maps.{flat_refusal, no_refusal}
use Rattle.falgnust.specs.declared.columns.Columns.{Columns}

-- the length written; or a refusal, with a zero beside it
abbrev pub flat_columns : Out ℕ → Columns
flat_columns (ok n) = record { accepted = true; refusal = no_refusal; length = n }
flat_columns (refused r) = record { accepted = false; refusal = flat_refusal r; length = 0 }
