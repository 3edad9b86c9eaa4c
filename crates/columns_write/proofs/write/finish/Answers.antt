-- What is written of the columns fits the output or not, by `CopyLaws`.
use mathlib.Core.Path.{refl}
use native.Mathlib.Omega.{arith}
use Rattle.byte_output.proofs.WrittenLaws.{written_length}
use Rattle.columns_put.proofs.DueLaws.{put_as}
use Rattle.columns_write.proofs.CopyLaws.{copies_by, too_short, long_enough}
use Rattle.columns_write.proofs.write.finish.Goals as goal

pub returns-then-output-length : goal.returns-then-output-length
returns-then-output-length c =
    λ full columns e.
    let w = put_as c.put_accepted-length.ensures e in
    rw (too_short full.section columns w c.if-output-length.true, ← c.refuse.ensures)
    (copies_by (record { propositions = refl; proofs = refl; depths = refl; output = written_length w }) c.refuse_all.ensures)

pub returns : goal.returns
returns c =
    λ full columns e.
    let w = put_as c.put_accepted-length.ensures e in
    long_enough full.section columns w (omega arith) (omega arith) full.filled c.clear_from.ensures
