-- Meets its contract: each field is what its callee ensures.
use Prim.Native.Nat.{◌+◌}
use Rattle.local_format.proofs.FieldLaws.{le_1}
use Rattle.evr0_pass.proofs.pass.Tables.proof_at.Goals as goal

pub returns : goal.returns
returns c rule =
    let a = c.args in
    rw (
      c.le_at.ensures,
      c.le_at-2.ensures,
      c.le_at-3.ensures,
      c.le_at-4.ensures,
      c.le_at-5.ensures,
      c.le_at-6.ensures,
      c.le_at-7.ensures,
      le_1 a.self.now.payload.now (c.after_name-rest.result + 20),
      c.after_name-rest.ensures,
    )
