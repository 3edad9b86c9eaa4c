-- `char_at` goes by the rows of Table 3-7: the lead byte's row, then what each byte after it makes of the character.
use mathlib.Core.Path.{ap, ◌∙◌}
use native.Mathlib.Omega.{arith}
use Rattle.utf8.specs.Utf8.{is_control}
use Rattle.utf8.proofs.Utf8Laws.{lead_2, lead_e0, lead_ed, lead_plain, lead_f0, lead_f1, lead_f4}
use Rattle.utf8.proofs.CharLaws.{later_stands, lead_more, later_ill, later_char, later_more}
use Rattle.utf8.proofs.char_at.Goals as goal

pub returns-in_err-later : goal.returns-in_err-later
returns-in_err-later c =
    rw c.from_residual.ensures
    (lead_more _ _ (omega arith) (lead_ed _ (omega arith)) (later_ill _ _ 0x80 0x9F _ c.in_err-later.ensures))

pub returns-then-lead : goal.returns-then-lead
returns-then-lead c =
    let e = c.in_ok-later.ensures in
    let l = later_stands 0x80 0x9F _ _ e in
    lead_more _ _ (omega arith) (lead_ed _ (omega arith)) (later_more _ _ 0x80 0x9F _ e (c.last.ensures _ (omega arith)))

pub returns-then-lead-lt240 : goal.returns-then-lead-lt240
returns-then-lead-lt240 c =
    lead_more _ _ (omega arith) (lead_plain _ (omega arith) (omega arith) (λ e. omega arith)) (c.last_two.ensures _ (omega arith))

pub returns-then-lead-lt224 : goal.returns-then-lead-lt224
returns-then-lead-lt224 c =
    lead_more _ _ (omega arith) (lead_2 _ (omega arith) (omega arith)) (c.last-then-lead-lt224.ensures _ (omega arith))

pub returns-in_err-next-in-194 : goal.returns-in_err-next-in-194
returns-in_err-next-in-194 c =
    rw c.from_residual-in_err-next-in-194.ensures
    (lead_more _ _ (omega arith) (lead_2 _ (omega arith) (omega arith)) (later_ill _ _ 0x80 0xBF _ c.in_err-next-in-194.ensures))

pub returns-in_ok-next-in-194 : goal.returns-in_ok-next-in-194
returns-in_ok-next-in-194 c =
    let e = c.in_ok-next-in-194.ensures in
    let l = later_stands 0x80 0xBF _ _ e in
    lead_more _ _ (omega arith) (lead_2 _ (omega arith) (omega arith))
    (later_char _ _ 0x80 0xBF _ e (c.is_control.ensures ∙ ap is_control (omega arith)))

pub returns-in_err-later-in-224 : goal.returns-in_err-later-in-224
returns-in_err-later-in-224 c =
    rw c.from_residual-in_err-later-in-224.ensures
    (lead_more _ _ (omega arith) (lead_e0 _ (omega arith)) (later_ill _ _ 0xA0 0xBF _ c.in_err-later-in-224.ensures))

pub returns-in_ok-later-in-224 : goal.returns-in_ok-later-in-224
returns-in_ok-later-in-224 c =
    let e = c.in_ok-later-in-224.ensures in
    let l = later_stands 0xA0 0xBF _ _ e in
    lead_more _ _ (omega arith) (lead_e0 _ (omega arith)) (later_more _ _ 0xA0 0xBF _ e (c.last-in-224.ensures _ (omega arith)))

pub returns-in_err-later-in-240 : goal.returns-in_err-later-in-240
returns-in_err-later-in-240 c =
    rw c.from_residual-in_err-later-in-240.ensures
    (lead_more _ _ (omega arith) (lead_f0 _ (omega arith)) (later_ill _ _ 0x90 0xBF _ c.in_err-later-in-240.ensures))

pub returns-in_ok-later-in-240 : goal.returns-in_ok-later-in-240
returns-in_ok-later-in-240 c =
    let e = c.in_ok-later-in-240.ensures in
    let l = later_stands 0x90 0xBF _ _ e in
    lead_more _ _ (omega arith) (lead_f0 _ (omega arith)) (later_more _ _ 0x90 0xBF _ e (c.last_two-in-240.ensures _ (omega arith)))

pub returns-in_err-later-in-241-to-243 : goal.returns-in_err-later-in-241-to-243
returns-in_err-later-in-241-to-243 c =
    rw c.from_residual-in_err-later-in-241-to-243.ensures
    (lead_more _ _ (omega arith) (lead_f1 _ (omega arith) (omega arith)) (later_ill _ _ 0x80 0xBF _ c.in_err-later-in-241-to-243.ensures))

pub returns-in_ok-later-in-241-to-243 : goal.returns-in_ok-later-in-241-to-243
returns-in_ok-later-in-241-to-243 c =
    let e = c.in_ok-later-in-241-to-243.ensures in
    let l = later_stands 0x80 0xBF _ _ e in
    lead_more _ _ (omega arith) (lead_f1 _ (omega arith) (omega arith)) (later_more _ _ 0x80 0xBF _ e (c.last_two-in-241-to-243.ensures _ (omega arith)))

pub returns-in_err-later-in-244 : goal.returns-in_err-later-in-244
returns-in_err-later-in-244 c =
    rw c.from_residual-in_err-later-in-244.ensures
    (lead_more _ _ (omega arith) (lead_f4 _ (omega arith)) (later_ill _ _ 0x80 0x8F _ c.in_err-later-in-244.ensures))

pub returns-in_ok-later-in-244 : goal.returns-in_ok-later-in-244
returns-in_ok-later-in-244 c =
    let e = c.in_ok-later-in-244.ensures in
    let l = later_stands 0x80 0x8F _ _ e in
    lead_more _ _ (omega arith) (lead_f4 _ (omega arith)) (later_more _ _ 0x80 0x8F _ e (c.last_two-in-244.ensures _ (omega arith)))
