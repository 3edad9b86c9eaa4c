-- By the laws over the width.
use native.Mathlib.Omega.{arith}
use Rattle.local_format.proofs.FieldLaws.{is_cut, is_whole}
use Rattle.local_format.proofs.field.field_at.Goals as goal

pub returns-then-saturating_sub-WIDTH : goal.returns-then-saturating_sub-WIDTH
returns-then-saturating_sub-WIDTH g c = is_cut _ _ _ (omega arith)

pub le_at-requires : goal.le_at-requires
le_at-requires g c = let p = g.met.T.LittleEndian.has_bytes in omega arith

pub returns : goal.returns
returns g c =
    rw c.WIDTH-2.ensures (is_whole _ _ _ _ (omega arith) g.met.T.LittleEndian.has_bytes c.le_at.ensures)
