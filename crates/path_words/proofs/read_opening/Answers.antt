-- Where 12 bytes are there, the first two decide what follows them.
use mathlib.Core.Path.{sym}
use Prim.Native.Nat.{◌+◌}
use native.Mathlib.Omega.{arith}
use Rattle.local_format.proofs.FieldLaws.{le_1}
use Rattle.semcode_records.proofs.FrontLaws.{ends_by_bytes}
use Rattle.path_words.proofs.OpeningLaws.{by_bytes, ends_told}
use Rattle.path_words.proofs.read_opening.Goals as goal

pub returns-clause-words : goal.returns-clause-words
returns-clause-words c =
    let a = c.args in
    rw (
      c.le_at-3.ensures,
      c.le_at-2.ensures,
      c.site_of.ensures,
      c.le_at.ensures,
      c.site_size-size.ensures.0,
    )
    (by_bytes _ _ _ (omega arith) (omega arith) _ _ (sym (le_1 a.code.now a.at)) (sym (le_1 a.code.now (a.at + 1))) (omega arith) (omega arith))

pub returns-clause-ends : goal.returns-clause-ends
returns-clause-ends c o e =
    let a = c.args in
    ends_told _ _ _ e
    (rw (c.le_at-3.ensures, c.site_size-size.ensures.0)
    (ends_by_bytes _ _ _ (omega arith) (omega arith) _ _ (sym (le_1 a.code.now a.at)) (sym (le_1 a.code.now (a.at + 1))) (omega arith) (omega arith)))
