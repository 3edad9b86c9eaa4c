-- The parents are the payload's last bytes.
use Prim.Native.Nat.{◌<◌}
use mathlib.Core.Path.{◌≡◌, ap}
use native.Mathlib.Omega.{arith}
use Rattle.evr0_section.specs.Head.{Counts}
use Rattle.evr0_read.proofs.TableLaws.{parent_count, parent_start}
use Rattle.evr0_read.proofs.numbered.ParentNumberNumbered.start.Goals as goal

pub returns : goal.returns
returns c bytes cursor d of len schema counts n m ps qs some e there =
    let k : c.args.self.0 < d.tables.head.counts.parents = omega (arith, some, parent_count of.rules of.room bytes cursor d of.is) in
    let total : c.args.counts.parents ≡ d.tables.head.counts.parents = ap (λ (n : Counts). n.parents) counts in
    rw (c.parent_place.ensures, len, total) (parent_start of.rules of.room bytes cursor d of.is c.args.self.0 k there)
