-- The witnesses stand before the parents, at the payload's end.
use Prim.Native.Nat.{◌<◌}
use mathlib.Core.Path.{◌≡◌, ap}
use native.Mathlib.Omega.{arith}
use Rattle.evr0_section.specs.Head.{Counts}
use Rattle.evr0_read.proofs.TableLaws.{witness_count, witness_start}
use Rattle.evr0_read.proofs.numbered.WitnessNumberNumbered.start.Goals as goal

pub returns : goal.returns
returns c bytes cursor d of len schema counts n m ps qs some e there =
    let k : c.args.self.0 < d.tables.head.counts.witnesses = omega (arith, some, witness_count of.rules of.room bytes cursor d of.is) in
    let witnesses : c.args.counts.witnesses ≡ d.tables.head.counts.witnesses = ap (λ (n : Counts). n.witnesses) counts in
    let parents : c.args.counts.parents ≡ d.tables.head.counts.parents = ap (λ (n : Counts). n.parents) counts in
    rw (c.witness_place.ensures, len, schema, witnesses, parents) (witness_start of.rules of.room bytes cursor d of.is c.args.self.0 k there)
