-- Meets its contract. The invariant: in an accepted section the way down has reached a proof with the moves made.
use Prim.Native.Nat.{◌*◌}
use mathlib.Core.Path.{◌≡◌, ap₂, ◌∙◌}
use native.Mathlib.Omega.{arith}
use lib.ListN.{drop}
use Rattle.local_format.specs.Field.{field_at}
use Rattle.local_format.specs.Maps.{answer_out, field_out}
use Rattle.local_format.proofs.OutLaws.{told}
use Rattle.evr0_records.specs.Maps.{sized_out, proof_record}
use Rattle.evr0_rulings.proofs.HeldLaws.{proof_there}
use Rattle.evr0_rulings.proofs.DownLaws.{reached_start, ends_here, spent_here, cell_there, moves_on}
use Rattle.evr0_rulings.proofs.down.down_from.Goals as goal

pub loop-proof-init : goal.loop-proof-init
loop-proof-init c =
    (omega arith, λ d h e l. reached_start _ d _ _ l)

pub returns-in_default : goal.returns-in_default
returns-in_default c d h e l =
    absurd (proof_there _ _ d h _ (c.loop-proof.invariant.1 d h e l).there (told (answer_out (sized_out proof_record)) c.proof_in-read.ensures c.in_default.is))

pub returns-then-proof-eq0 : goal.returns-then-proof-eq0
returns-then-proof-eq0 c d h e l =
    ends_here _ _ d h _ _ _ _ (c.loop-proof.invariant.1 d h e l) _ (told (answer_out (sized_out proof_record)) c.proof_in-read.ensures c.in-Ok.is)
    c.if-proof-eq0.true

pub returns-then-moves-limit : goal.returns-then-moves-limit
returns-then-moves-limit c d h e l =
    spent_here _ _ d h _ _ _ _ (c.loop-proof.invariant.1 d h e l) _ (told (answer_out (sized_out proof_record)) c.proof_in-read.ensures c.in-Ok.is)
    c.if-proof-eq0.false c.if-moves-limit.true

pub returns-in_default-cell : goal.returns-in_default-cell
returns-in_default-cell c d h e l =
    let celled : (field_out (λ n. n)) c.field_at-cell.result ≡ field_at 4 (drop c.args.cells c.args.payload.now) (4 * c.in-Ok.field-0.item.parent_first) =
    c.field_at-cell.ensures ∙ ap₂ (field_at 4) c.tail-table.ensures c.first_cell.ensures in
    absurd (cell_there _ _ d h _ _ _ _ (c.loop-proof.invariant.1 d h e l) _ (told (answer_out (sized_out proof_record)) c.proof_in-read.ensures c.in-Ok.is)
    c.if-proof-eq0.false
    _ e (told (field_out (λ n. n)) celled c.in_default-cell.is))

pub overflow_add-moves : goal.overflow_add-moves
overflow_add-moves c =
    omega (arith, c.loop-proof.invariant.0, c.if-moves-limit.false, c.ranges.limit)

pub loop-proof-smaller : goal.loop-proof-smaller
loop-proof-smaller c =
    omega (arith, c.loop-proof.invariant.0, c.if-moves-limit.false)

pub loop-proof-preserved : goal.loop-proof-preserved
loop-proof-preserved c =
    let celled : (field_out (λ n. n)) c.field_at-cell.result ≡ field_at 4 (drop c.args.cells c.args.payload.now) (4 * c.in-Ok.field-0.item.parent_first) =
    c.field_at-cell.ensures ∙ ap₂ (field_at 4) c.tail-table.ensures c.first_cell.ensures in (
      omega (arith, c.loop-proof.invariant.0, c.if-moves-limit.false),
      λ d h e l. moves_on _ _ d h _ _ _ _ (c.loop-proof.invariant.1 d h e l) _ (told (answer_out (sized_out proof_record)) c.proof_in-read.ensures c.in-Ok.is)
          c.if-proof-eq0.false
          _ e c.if-moves-limit.false c.loop-proof.invariant.0 (told (field_out (λ n. n)) celled c.in-Some.is),
    )
