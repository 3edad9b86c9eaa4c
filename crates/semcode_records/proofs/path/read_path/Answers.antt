-- An unknown event is refused after the components.
use Rattle.semcode_records.proofs.PathLaws.{head_steps}
use Rattle.semcode_records.proofs.path.read_path.Goals as goal

pub returns-in_default : goal.returns-in_default
returns-in_default c =
    rw (head_steps _ _ _, ← c.in_ok-kind.ensures, ← c.in_ok-next.ensures, c.in_default.is, c.refuse.ensures)
