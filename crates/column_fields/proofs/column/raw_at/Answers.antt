-- By how many bytes are left.
use mathlib.Core.Path.{ap, ◌∙◌}
use native.Mathlib.Omega.{arith}
use lib.ListN.{length}
use Rattle.local_format.specs.Refusal.{Refusal}
use Rattle.local_format.specs.Out.{refused}
use Rattle.column_fields.proofs.PastLaws.{raw_cut, raw_whole}
use Rattle.column_fields.proofs.column.raw_at.Goals as goal

pub returns-then-tail-size : goal.returns-then-tail-size
returns-then-tail-size c =
    let a = c.args in
    ap (λ (r : Refusal). refused r) c.refuse.ensures
    ∙ raw_cut a.bytes.now a.at a.size (omega (arith, c.if-tail-size.true, ap length c.tail.ensures))

pub returns : goal.returns
returns c =
    let a = c.args in
    raw_whole a.bytes.now a.at a.size (omega (arith, c.if-tail-size.false, ap length c.tail.ensures))
