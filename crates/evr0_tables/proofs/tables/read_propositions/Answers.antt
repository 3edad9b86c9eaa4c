-- Meets its contract. The invariant is where the loop stands, by `TableLaws`; the starts are the table's first entries.
use mathlib.Core.Path.{◌≡◌, refl, sym, ap, ◌∙◌}
use native.Mathlib.Omega.{arith}
use lib.ListN.{length, length-set}
use Rattle.std.proofs.Common.{rules}
use Rattle.local_format.specs.Out.{refused}
use Rattle.evr0_section.proofs.Inside.{proposition_row_in}
use Rattle.evr0_tables.specs.Maps.{kept_out, before_out, next_in}
use Rattle.evr0_tables.proofs.RowLaws.{read_there, refused_there}
use Rattle.evr0_tables.proofs.TableLaws.{advance, stop, stored, read_next, read_front, refused_front}
use Rattle.evr0_tables.proofs.tables.read_propositions.Goals as goal

pub returns-in_err-next : goal.returns-in_err-next
returns-in_err-next c =
    let q = refused_there (kept_out (before_out c.args.payload.now)) _ _ c.next_proposition.ensures c.in_err-next.ensures in
    let e = stop c.loop-start.invariant (proposition_row_in _ _) (omega arith) q.1 (omega arith) in
    let size : length c.args.starts.now ≡ length c.loop-start.start-items = omega arith in
    rw size (record { result_value = rw (ap next_in e ∙ ap refused (sym q.2)) (search rules); front = refused_front _ e })

pub overflow_add-place : goal.overflow_add-place
overflow_add-place c =
    let k = read_there (kept_out (before_out c.args.payload.now)) _ _ c.next_proposition.ensures c.in_ok-next.ensures in
    let on = advance c.loop-start.invariant (proposition_row_in _ _) (omega arith) k in
    omega (arith, on.within)

pub loop-start-preserved : goal.loop-start-preserved
loop-start-preserved c =
    let k = read_there (kept_out (before_out c.args.payload.now)) _ _ c.next_proposition.ensures c.in_ok-next.ensures in
    rw length-set (stored _ _ _ (advance c.loop-start.invariant (proposition_row_in _ _) (omega arith) k) (omega arith))

pub returns : goal.returns
returns c =
    let size : length c.args.starts.now ≡ length c.loop-start.start-items = omega arith in
    let i = c.loop-start.invariant in
    rw size (record { result_value = read_next i (omega arith); front = read_front i (omega arith) _ refl (omega arith) })
