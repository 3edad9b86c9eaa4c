-- One debug symbol.
use Rattle.std.specs.Prelude.{ℕ, List}
use Rattle.local_format.specs.Out.{Out, ◌>>=◌}
use Rattle.local_format.specs.Field.{field}
use Rattle.semcode_records.specs.Records.{Taken, taken}

pub record Symbol : Type 0 where
  pub pc : ℕ
  pub line : ℕ
  pub column : ℕ

unfoldable pub symbol_at : List ℕ → ℕ → Out (Taken Symbol)
symbol_at s at = do
  pc ← field 37 4 s at
  line ← field 38 4 s pc.next
  column ← field 39 2 s line.next
  taken (record { pc = pc.value; line = line.value; column = column.value }) column.next
