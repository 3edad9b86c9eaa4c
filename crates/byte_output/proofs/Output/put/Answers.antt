-- In the buffer the byte is set; past its end nothing is stored, and the place is held.
use mathlib.Core.Path.{refl, sym}
use native.Mathlib.Omega.{arith}
use lib.Seq.{set_out}
use Rattle.local_format.specs.Out.{held}
use Rattle.byte_output.proofs.WrittenLaws.{writes_now}
use Rattle.byte_output.proofs.Output.put.Goals as goal

pub returns-then-self : goal.returns-then-self
unfolding held
returns-then-self c =
    writes_now refl (record { holds = refl; place = omega arith; fits = omega arith })

pub returns-else-self : goal.returns-else-self
returns-else-self c =
    writes_now refl (record { holds = sym (set_out _ _ _ c.if-self.false); place = c.diag_offset-self.ensures; fits = omega arith })
