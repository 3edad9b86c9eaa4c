-- Where the root is cut, what was read before it says what the whole is refused with.
use Rattle.semcode_records.specs.Path.{front_at}
use Rattle.semcode_records.proofs.path.read_front.Goals as goal

pub returns-in_default-field_at : goal.returns-in_default-field_at
unfolding front_at
returns-in_default-field_at c =
    rw (← c.in-Some.ensures, ← c.in_ok-event.ensures, ← c.in_default-field_at.ensures, c.refuse-in_default-field_at.ensures)
