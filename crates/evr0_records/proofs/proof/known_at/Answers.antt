-- A name that is a rule's is a text (`known_there`); where there is none, what stands there is no rule's name.
use native.Mathlib.Omega.{arith}
use native.Mathlib.Nat.{add-sub_cancel_left}
use mathlib.Core.Path.{◌≡◌, ap, sym, ◌∙◌}
use mathlib.Core.Logic.{⊎_elim}
use lib.ListN.{take, drop}
use Rattle.local_format.specs.Text.{bytes_at}
use Rattle.evr0_rules.specs.Maps.{book_rules}
use Rattle.evr0_records.proofs.NameLaws.{known_there}
use Rattle.evr0_records.proofs.RuledLaws.{none_cut, placed, none_past, none_known}
use Rattle.evr0_records.proofs.proof.known_at.Goals as goal

pub returns-in_err-value : goal.returns-in_err-value
returns-in_err-value c =
    rw c.from_residual.ensures (none_cut (book_rules c.args.rules.now) c.args.tail.now c.args.at c.in_err-value.ensures)

pub overflow_add-next : goal.overflow_add-next
overflow_add-next c =
    let p = placed (book_rules c.args.rules.now) c.args.tail.now c.args.at c.in_ok-value.ensures in
    omega (arith, p.1)

pub returns-in_err-get : goal.returns-in_err-get
returns-in_err-get c =
    rw c.from_residual-in_err-get.ensures
    (none_past (book_rules c.args.rules.now) c.args.tail.now c.args.at c.in_ok-value.ensures
    (⊎_elim (λ h. absurd (omega arith)) (λ h. h) c.in_err-get.ensures.lookup.0))

pub returns-in_err-rule : goal.returns-in_err-rule
returns-in_err-rule c =
    let s = c.args.tail.now in
    let v = c.in_ok-value.field-0 in
    let name : c.in_ok-get.field-0.now ≡ bytes_at s v.next v.value =
    c.in_ok-get.ensures.lookup.0.2 ∙ ap (λ k. take k (drop v.next s)) (add-sub_cancel_left v.next v.value) in
    rw c.from_residual-in_err-rule.ensures
    (none_known (book_rules c.args.rules.now) s c.args.at c.in_ok-value.ensures (rw name at (sym c.in_err-rule.ensures)))

pub returns : goal.returns
returns c =
    let s = c.args.tail.now in
    let v = c.in_ok-value.field-0 in
    let name : c.in_ok-get.field-0.now ≡ bytes_at s v.next v.value =
    c.in_ok-get.ensures.lookup.0.2 ∙ ap (λ k. take k (drop v.next s)) (add-sub_cancel_left v.next v.value) in
    known_there c.args.rules.now s c.args.at c.in_ok-value.ensures _ c.in_ok-get.ensures.lookup.0.1 (rw name at c.in_ok-rule.ensures)
