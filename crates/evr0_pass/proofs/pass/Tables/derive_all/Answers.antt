-- Each turn is one step of the definition: the depths in the table, then those of the proofs from here on, are all depths.
use Prim.Native.Nat.{ℕ, ◌+◌, ◌-◌, ◌≤◌, ◌<◌}
use mathlib.Core.Path.{◌≡◌, refl, sym, ap, subst, ◌∙◌}
use native.Mathlib.Omega.{arith}
use native.Mathlib.Numerals.{add-one}
use lib.ListN.{length, take, length-set}
use lib.Seq.{take-suc-set, get_or-set_other}
use Rattle.std.proofs.Common.{rules}
use Rattle.local_format.specs.Out.{ok}
use Rattle.derivation.specs.Section as derivation
use Rattle.derivation.specs.Pass as pass
use Rattle.derivation.proofs.Laws.{pass_none, pass_refused, pass_turn}
use Rattle.evr0_pass.specs.View.{nameless}
use Rattle.evr0_pass.specs.Maps.{layout_out, tables_in}
use Rattle.evr0_pass.specs.Tables.{tables_by}
use Rattle.evr0_pass.proofs.ViewLaws.{proof_total_lem}
use Rattle.evr0_pass.proofs.DeriveLaws.{proof_number, depth_at}
use Rattle.evr0_pass.proofs.pass.Tables.derive_all.Goals as goal

pub loop-i-init : goal.loop-i-init
unfolding pass.depths
loop-i-init c =
    let a = c.args in (
      refl,
      λ k h. refl,
      λ rs there.
          let e : length a.self.now.starts.now - 0 ≡ derivation.proof_total (tables_in rs a.self.now.payload.now a.self.now.starts.now a.self.now.layout) =
          omega (arith, proof_total_lem rs a.self.now.payload.now a.self.now.starts.now (layout_out a.self.now.layout)) in
          rw e,
    )

pub depth_of-requires : goal.depth_of-requires
depth_of-requires c =
    let t = c.args.self.now in
    let i = c.loop-i.i in
    let number = proof_number t i _ c.loop-i-test.true _ c.proof_at-proof.ensures in
    let there = t.there.proofs i c.loop-i-test.true in
    let read = sym (c.proof_at-proof.ensures nameless) in
    record {
      tables = t.there;
      witnesses = subst (λ (q : derivation.Proof). q.first_witness + q.witness_count ≤ t.layout.counts.witnesses) read there.witnesses;
      parents = subst (λ (q : derivation.Proof). q.first_parent + q.parent_count ≤ t.layout.counts.parents) read there.parents;
      started = omega (arith, number);
      known = omega (arith, number, c.requires);
    }

pub returns-in_err-depths : goal.returns-in_err-depths
returns-in_err-depths c rs there =
    let t = c.args.self.now in
    let l = c.loop-i in
    let asks = l.invariant.1 l.i (omega arith) ∙ there l.i c.loop-i-test.true in
    let depth = depth_at t l.i _ c.loop-i-test.true _ c.proof_at-proof.ensures rs l.depths asks (c.in_err-depths.ensures rs) in
    rw (← (sym (pass_refused t.layout.parents_at (tables_by rs t) _ l.i (take l.i l.depths) _ (omega arith) depth) ∙ l.invariant.2 rs there))
    (search rules)

pub loop-i-preserved : goal.loop-i-preserved
loop-i-preserved c =
    let t = c.args.self.now in
    let l = c.loop-i in
    let d = c.in_ok-depths.field-0 in
    let h : l.i < length l.depths = omega (arith, c.requires) in
    let left : length t.starts.now - (l.i + 1) ≡ length t.starts.now - l.i - 1 = omega arith in (
      length-set l.depths l.i d ∙ l.invariant.0,
      λ k m. get_or-set_other l.depths l.i k d 0 (λ e. omega arith) ∙ l.invariant.1 k (omega arith),
      λ rs there.
          let asks = l.invariant.1 l.i (omega arith) ∙ there l.i c.loop-i-test.true in
          let depth = depth_at t l.i _ c.loop-i-test.true _ c.proof_at-proof.ensures rs l.depths asks (c.in_ok-depths.ensures rs) in
          rw (left, add-one l.i, take-suc-set l.depths l.i d h, ← add-one l.i)
          (sym (pass_turn t.layout.parents_at (tables_by rs t) _ l.i (take l.i l.depths) d (omega arith) depth) ∙ l.invariant.2 rs there),
    )

pub returns : goal.returns
returns c rs there =
    let a = c.args in
    let l = c.loop-i in
    let e : length a.self.now.starts.now ≡ l.i = omega arith in
    ap (λ (k : ℕ). ok (take k l.depths)) e
    ∙ sym (pass_none a.self.now.layout.parents_at (tables_in rs a.self.now.payload.now a.self.now.starts.now a.self.now.layout) _ l.i
    (take l.i l.depths) (omega arith))
    ∙ l.invariant.2 rs there
