-- Where as many bytes are left as the number has, it is theirs.
use Prim.Native.Nat.{ℕ, ◌≤◌}
use mathlib.Core.Path.{sym, ap, ◌∙◌}
use mathlib.Core.List.{List}
use native.Mathlib.Omega.{arith}
use lib.ListN.{length, drop}
use Rattle.local_format.specs.Refusal.{Refusal}
use Rattle.local_format.specs.Out.{refused}
use Rattle.local_format.specs.Field.{le}
use Rattle.column_fields.proofs.RowLaws.{plain_cut, plain_whole}
use Rattle.column_fields.proofs.form.plain_at.Goals as goal

pub returns-then-rest-size : goal.returns-then-rest-size
returns-then-rest-size c =
    let a = c.args in
    rw (← c.size-size.ensures)
    (ap (λ (r : Refusal). refused r) c.refuse.ensures
    ∙ plain_cut c.size-size.result a.bytes.now a.at (omega (arith, c.if-rest-size.true, ap length c.tail-rest.ensures)))

pub returns : goal.returns
returns c =
    let size : ℕ = c.size-size.result in
    let a = c.args in
    let enough : size ≤ length (drop a.at a.bytes.now) = omega (arith, c.if-rest-size.false, ap length c.tail-rest.ensures) in
    let same = ap (λ (width : ℕ). le width c.tail-rest.result.now 0) c.size-size.ensures in
    rw (← c.size-size.ensures)
    (plain_whole size a.bytes.now a.at enough
    (c.first_number.ensures ∙ sym same ∙ ap (λ (s : List ℕ). le size s 0) c.tail-rest.ensures))
