-- Meets its contract: what was written, and how many of the buffer's bytes it took.
use Rattle.std.proofs.Common.{rules}
use mathlib.Core.Path.{◌≡◌, ◌∙◌}
use native.Mathlib.Omega.{arith}
use Rattle.local_format.specs.Out.{held}
use Rattle.evidence_output.proofs.evidence.Goals as goal

pub returns : goal.returns
unfolding held
returns c =
    let left : c.output-1.given.0 ≡ c.put_evidence.new.out.bytes.now = search rules in
    let w = c.put_evidence.ensures.written in
    record { holds = left ∙ w.holds; place = c.min.ensures ∙ omega (arith, w.place, w.fits) }
