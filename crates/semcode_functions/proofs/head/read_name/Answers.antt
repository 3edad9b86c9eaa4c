-- Where the length is read, the answer goes by what the bytes are (`name_goes_on`).
use Rattle.std.proofs.Common.{◌≡◌, ℕ, ◌∙◌, refl, sym, Err}
use Rattle.local_format.specs.Out.{refuse}
use Rattle.utf8.specs.Maps.{utf8_out}
use Rattle.utf8.specs.declared.Utf8Error.{Utf8Error}
use Rattle.utf8.specs.declared.Utf8Error.TheVariants.{NotUtf8, Cut}
use Rattle.semcode_functions.proofs.HeadLaws.{name_from, name_goes_on}
use Rattle.semcode_functions.proofs.head.read_name.Goals as goal

no_name : (start len : ℕ) (e : Utf8Error) → name_from start len (utf8_out (Err e)) ≡ refuse 64 start
no_name start len (NotUtf8 next) = refl
no_name start len Cut = refl

pub returns-in-Ok : goal.returns-in-Ok
returns-in-Ok c = rw c.spanned.ensures (name_goes_on _ _ _ _ c.in-Some.ensures c.in_ok-check.ensures _ c.in-Ok.ensures)

pub returns-in-Err : goal.returns-in-Err
returns-in-Err c =
    rw c.refuse-in-Err.ensures (sym (no_name _ _ _) ∙ name_goes_on _ _ _ _ c.in-Some.ensures c.in_ok-check.ensures _ c.in-Err.ensures)
