-- The kind is that of the number.
use Rattle.local_format.proofs.refusal.refuse.Goals as goal

pub returns : goal.returns
returns c =
    rw c.kind_of.ensures
