-- The number of the bytes is the definition's.
use native.Mathlib.Omega.{arith}
use mathlib.Core.Path.{◌∙◌}
use Rattle.local_format.proofs.FieldLaws.{le_4}
use Rattle.local_format.proofs.field.U32LittleEndian.le_at.Goals as goal

pub returns : goal.returns
returns c = omega (arith, c.from_le_bytes.ensures) ∙ le_4 c.args.bytes.now c.args.at
