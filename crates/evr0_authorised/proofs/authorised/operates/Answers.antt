-- The tests of the definition, the mark first.
use Prim.Native.Nat.{ℕ, ◌+◌}
use mathlib.Core.Path.{◌≡◌, ap, ◌∙◌}
use lib.Dec.{eqb}
use lib.ListN.{get_or}
use Rattle.local_format.specs.Field.{le}
use Rattle.local_format.proofs.FieldLaws.{le_1}
use Rattle.evr0_pass.specs.View.{after_name, proof_view}
use Rattle.evr0_authorised.proofs.OperatesLaws.{marked_too}
use Rattle.evr0_authorised.proofs.authorised.operates.Goals as goal

pub returns-then-positive : goal.returns-then-positive
unfolding proof_view
returns-then-positive c rules =
    let p = c.args.payload.now in
    let rest : ℕ = after_name p c.args.start + 20 in
    let operation : get_or p (c.after_name.result + 20) 0 ≡ le 1 p rest = ap (λ (n : ℕ). get_or p (n + 20) 0) c.after_name.ensures ∙ le_1 p rest in
    ap (λ (n : ℕ). eqb n 1) operation ∙ marked_too (eqb (le 1 p rest) 1) c.if-positive.true
