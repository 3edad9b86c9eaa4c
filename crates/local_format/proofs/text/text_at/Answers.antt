-- Where the length is read, the answer goes by what the bytes are (`text_goes_on`).
use Rattle.std.proofs.Common.{rules, Err}
use Rattle.utf8.specs.Maps.{utf8_out}
use Rattle.utf8.specs.declared.Utf8Error.TheVariants.{NotUtf8, Cut}
use Rattle.local_format.proofs.TextLaws.{text_goes_on}
use Rattle.local_format.proofs.text.text_at.Goals as goal

pub returns-in_err-check-in-Ok : goal.returns-in_err-check-in-Ok
returns-in_err-check-in-Ok c =
    rw (← text_goes_on _ _ _ _ c.in-Some.ensures c.in_ok-check.ensures _ c.in-Ok.ensures) (search rules)

pub returns-in_ok-check-in-Ok : goal.returns-in_ok-check-in-Ok
returns-in_ok-check-in-Ok c =
    rw (← text_goes_on _ _ _ _ c.in-Some.ensures c.in_ok-check.ensures _ c.in-Ok.ensures) (search rules)

pub returns-in-Err-NotUtf8 : goal.returns-in-Err-NotUtf8
returns-in-Err-NotUtf8 c =
    rw c.refuse-in-Err-NotUtf8.ensures
    (text_goes_on _ _ _ _ c.in-Some.ensures c.in_ok-check.ensures (utf8_out (Err (NotUtf8 c.in-Err-NotUtf8.next))) (search rules))

pub returns-in-Err-Cut : goal.returns-in-Err-Cut
returns-in-Err-Cut c =
    rw c.refuse-in-Err-Cut.ensures
    (text_goes_on _ _ _ _ c.in-Some.ensures c.in_ok-check.ensures (utf8_out (Err Cut)) (search rules))
