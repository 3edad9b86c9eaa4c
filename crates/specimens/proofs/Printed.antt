-- What `evidence` prints for some inputs, by computation.
use mathlib.Core.Path.{◌≡◌, refl}
use mathlib.Core.List.{map}
use Rattle.specimens.specs.Build.{Free}
use Rattle.specimens.proofs.Computed.{decoded}
use Rattle.evidence_output.specs.Decimal.{digits_below, decimal}
use Rattle.evidence_output.specs.Output.{spaced, line, proof_line, proof_lines, head_line, printed, output_of}
use Rattle.specimens.specs.Runs.{runs}

pub printed_runs : (free : Free) → map (λ r. output_of r.input) (runs free) ≡ map (λ r. r.output) (runs free)
unfolding decoded digits_below decimal spaced line proof_line proof_lines head_line printed output_of runs
printed_runs free = refl
