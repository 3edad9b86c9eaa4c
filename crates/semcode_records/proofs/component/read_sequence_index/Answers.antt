-- Behind the test of the revision, the field says what the whole is.
use Rattle.semcode_records.specs.Component.{sequence_index_at}
use Rattle.semcode_records.proofs.component.read_sequence_index.Goals as goal

pub returns-in_default : goal.returns-in_default
unfolding sequence_index_at
returns-in_default c =
    rw (← c.in_ok-check.ensures, ← c.in_default.ensures, c.refuse.ensures)

pub returns : goal.returns
unfolding sequence_index_at
returns c =
    rw (← c.in_ok-check.ensures, ← c.in-Some.ensures)
