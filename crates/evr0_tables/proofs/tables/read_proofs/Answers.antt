-- Meets its contract, as read_propositions does, with what is unowned as the state; the polarities that are asked are noted as well.
use mathlib.Core.Path.{refl, sym, ap, ◌∙◌}
use mathlib.Core.List.{List}
use native.Mathlib.Omega.{arith}
use lib.ListN.{length}
use Prim.Native.Nat.{◌<◌}
use Rattle.std.proofs.Common.{rules, drop-set-lt}
use Rattle.local_format.specs.Out.{refused}
use Rattle.local_format.proofs.OutLaws.{never}
use Rattle.derivation.specs.Rule.{Rule}
use Rattle.evr0_section.specs.Proof.{proof_row}
use Rattle.evr0_section.proofs.Inside.{proof_row_in}
use Rattle.evr0_head.specs.Maps.{counts_out}
use Rattle.evr0_rules.specs.Maps.{book_rules}
use Rattle.evr0_tables.specs.Maps.{noted_out, owned_in}
use Rattle.evr0_tables.proofs.RowLaws.{noted_kept, noted_refused, read_there, refused_there}
use Rattle.evr0_tables.proofs.TableLaws.{advance, stop, stored, one_more, noted, read_owned}
use Rattle.evr0_tables.proofs.TableLaws.{read_front, asked_laid, refused_front}
use Rattle.evr0_tables.proofs.tables.read_proofs.Goals as goal

pub returns-in_err-noted : goal.returns-in_err-noted
returns-in_err-noted c =
    let among : List Rule = book_rules c.args.rules.now in
    let row = proof_row among (counts_out c.args.counts) in
    let q = refused_there noted_out _ _ c.next_proof.ensures c.in_err-noted.ensures in
    let e = stop c.loop-i.invariant.0 (proof_row_in _ _ _ _) (omega arith) (noted_refused (row _ _) q.1) (omega arith) in
    record {
      result_value = rw (ap owned_in e ∙ ap refused (sym q.2)) (search rules);
      front = refused_front _ e;
      polarities_after = λ t k. absurd (never (sym e ∙ k));
    }

pub overflow_add-place : goal.overflow_add-place
overflow_add-place c =
    let among : List Rule = book_rules c.args.rules.now in
    let row = proof_row among (counts_out c.args.counts) in
    let k = read_there noted_out _ _ c.next_proof.ensures c.in_ok-noted.ensures in
    let on = advance c.loop-i.invariant.0 (proof_row_in _ _ _ _) (omega arith) (noted_kept (row _ _) k) in
    omega (arith, on.within)

pub loop-i-preserved : goal.loop-i-preserved
loop-i-preserved c =
    let among : List Rule = book_rules c.args.rules.now in
    let row = proof_row among (counts_out c.args.counts) in
    let i = c.loop-i.invariant in
    let k = read_there noted_out _ _ c.next_proof.ensures c.in_ok-noted.ensures in
    let on = advance i.0 (proof_row_in _ _ _ _) (omega arith) (noted_kept (row _ _) k) in
    let asks = noted i.1 (omega arith) k in
    let h : c.loop-i.i < length c.loop-i.polarities = omega arith in
    let more : c.loop-i.i < c.args.counts.proofs = omega arith in
    (stored _ _ _ on (omega arith), rw (one_more _ _ _ h) asks, drop-set-lt _ _ _ _ more ∙ i.2)

pub returns : goal.returns
returns c =
    let i = c.loop-i.invariant in
    record {
      result_value = read_owned i.0 (omega arith);
      front = read_front i.0 (omega arith) _ refl (omega arith);
      polarities_after = asked_laid _ _ i.1 (omega arith) i.2 (omega arith);
    }
