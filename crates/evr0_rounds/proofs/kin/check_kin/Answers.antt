-- Each turn is one step of the definition: what is answered from the proof reached on is the whole answer.
use borrow.Author.Rules.{rules}
use Prim.Native.Nat.{ℕ, ◌+◌, ◌-◌}
use mathlib.Core.Path.{◌≡◌, sym, ap, ◌∙◌}
use native.Mathlib.Omega.{arith}
use lib.ListN.{length}
use Rattle.local_format.specs.Out.{refused}
use Rattle.local_format.specs.Maps.{answer_out, refusal_out}
use Rattle.derivation.specs.Section.{proof_total}
use Rattle.rounds.specs.Rounds as of
use Rattle.rounds.proofs.Loops.{kin_none, kin_refused, kin_turn}
use Rattle.evr0_pass.specs.Maps.{layout_out}
use Rattle.evr0_pass.proofs.ViewLaws.{proof_total_lem}
use Rattle.evr0_pass.specs.Tables.{tables_by}
use Rattle.evr0_rounds.proofs.kin.check_kin.Goals as goal

pub loop-i-init : goal.loop-i-init
loop-i-init c rs =
    let t = c.args.tables in
    let e : length t.starts.now - 0 ≡ proof_total (tables_by rs t) =
    omega (arith, proof_total_lem rs t.payload.now t.starts.now (layout_out t.layout)) in
    ap (λ (n : ℕ). of.kin_from t.layout.parents_at (tables_by rs t) n 0) e

pub returns-in_err-check_parents : goal.returns-in_err-check_parents
returns-in_err-check_parents c rs =
    let t = c.args.tables in
    let l = c.loop-i in
    let e : answer_out (λ done. done) c.from_residual.result ≡ refused (refusal_out c.in_err-check_parents.field-0.0) = search rules in
    rw e
    (sym (kin_refused t.layout.parents_at (tables_by rs t) _ l.i _ (omega arith) (sym (c.in_err-check_parents.ensures rs))) ∙ l.invariant rs)

pub loop-i-preserved : goal.loop-i-preserved
loop-i-preserved c rs =
    let t = c.args.tables in
    let l = c.loop-i in
    let left : length t.starts.now - (l.i + 1) ≡ length t.starts.now - l.i - 1 = omega arith in
    rw left
    (sym (kin_turn t.layout.parents_at (tables_by rs t) _ l.i (omega arith) (sym (c.in_ok-check_parents.ensures rs))) ∙ l.invariant rs)

pub returns : goal.returns
returns c rs =
    let t = c.args.tables in
    let l = c.loop-i in
    sym (kin_none t.layout.parents_at (tables_by rs t) _ l.i (omega arith)) ∙ l.invariant rs
