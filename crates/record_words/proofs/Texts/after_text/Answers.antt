-- Meets its contract: each test asks for a part of the record.
use Prim.Native.Nat.{ℕ, ◌+◌, ◌*◌}
use mathlib.Core.Path.{ap}
use native.Mathlib.Omega.{arith}
use Rattle.record_words.proofs.Laws.{text_cut, text_there}
use Rattle.record_words.proofs.Texts.after_text.Goals as goal

pub returns-then-bytes-head : goal.returns-then-bytes-head
returns-then-bytes-head g c =
    let a = c.args in
    text_cut g.row.FRONT g.row.BACK a.bytes.now a.at (omega arith)

pub returns-then-bytes-head-2 : goal.returns-then-bytes-head-2
returns-then-bytes-head-2 g c =
    let a = c.args in
    text_cut g.row.FRONT g.row.BACK a.bytes.now a.at (omega arith)

pub returns-then-bytes-rest : goal.returns-then-bytes-rest
returns-then-bytes-rest g c =
    let a = c.args in
    text_cut g.row.FRONT g.row.BACK a.bytes.now a.at (omega (arith, c.le_at.ensures))

pub returns : goal.returns
returns g c =
    let a = c.args in
    text_there g.row.FRONT g.row.BACK a.bytes.now a.at _ (ap (λ (n : ℕ). a.at + (4 * g.row.FRONT + 2) + n) c.le_at.ensures) (omega arith)
