-- The number of the bytes is the definition's.
use native.Mathlib.Omega.{arith}
use mathlib.Core.Path.{◌∙◌}
use Rattle.local_format.proofs.FieldLaws.{le_8}
use Rattle.local_format.proofs.field.U64LittleEndian.le_at.Goals as goal

pub returns : goal.returns
returns c = omega (arith, c.from_le_bytes.ensures) ∙ le_8 c.args.bytes.now c.args.at
