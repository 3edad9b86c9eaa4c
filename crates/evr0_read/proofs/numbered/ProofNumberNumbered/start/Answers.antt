-- The lent table has the start at the number.
use Rattle.evr0_read.proofs.FindLaws.{lent_start}
use Rattle.evr0_read.proofs.numbered.ProofNumberNumbered.start.Goals as goal

pub returns : goal.returns
returns c bytes cursor d of len schema counts n m ps qs some e there =
    rw c.entry_or.ensures (lent_start m c.args.self.0 d.tables.proofs.entries qs some there)
