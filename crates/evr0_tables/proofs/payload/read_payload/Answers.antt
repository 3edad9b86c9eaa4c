-- Meets its contract: a refused head leaves zeros, and a checked one tells the room that the tables need, by `PayloadLaws`.
use mathlib.Core.Path.{◌≡◌}
use Rattle.std.proofs.Common.{rules}
use Rattle.local_format.specs.Out.{refused}
use Rattle.local_format.specs.Maps.{answer_out, refusal_out}
use Rattle.evr0_head.specs.Maps.{head_out}
use Rattle.evr0_tables.specs.PayloadMaps.{payload_out}
use Rattle.evr0_tables.proofs.PayloadLaws.{ready, no_head, by_head}
use Rattle.evr0_tables.proofs.payload.read_payload.Goals as goal

pub read_tables-requires : goal.read_tables-requires
read_tables-requires c =
    let r = ready _ _ c.in-Ok.ensures in
    record { room = (r.propositions, r.proofs, r.depths); bounds = (r.parents, r.within) }

pub returns-in_err-places-in-Ok-clause-reads : goal.returns-in_err-places-in-Ok-clause-reads
returns-in_err-places-in-Ok-clause-reads c =
    let e : answer_out payload_out c.from_residual.result ≡ refused (refusal_out c.in_err-places-in-Ok.field-0.0) = search rules in
    rw (e, ← by_head _ _ _ c.in-Ok.ensures) (c.in_err-places-in-Ok.ensures.reads (head_out c.in-Ok.head))

pub returns-in_ok-places-in-Ok-clause-reads : goal.returns-in_ok-places-in-Ok-clause-reads
returns-in_ok-places-in-Ok-clause-reads c =
    rw (← by_head _ _ _ c.in-Ok.ensures) (c.in_ok-places-in-Ok.ensures.reads (head_out c.in-Ok.head))

pub returns-in-Err-clause-reads : goal.returns-in-Err-clause-reads
returns-in-Err-clause-reads c =
    no_head _ _ _ c.in-Err.ensures c.clear.ensures.cleared
