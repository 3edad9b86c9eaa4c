-- Where the length is read, the answer goes by what the bytes are (`string_goes_on`).
use Prim.Native.Nat.{ℕ}
use mathlib.Core.Path.{◌≡◌, refl, sym, ◌∙◌}
use Rattle.std.proofs.Common.{rules, Err}
use Rattle.local_format.specs.Out.{refuse}
use Rattle.utf8.specs.Maps.{utf8_out}
use Rattle.utf8.specs.declared.Utf8Error.{Utf8Error}
use Rattle.utf8.specs.declared.Utf8Error.TheVariants.{NotUtf8, Cut}
use Rattle.local_format.proofs.TextLaws.{string_from, string_goes_on}
use Rattle.local_format.proofs.text.string_at.Goals as goal

no_string : (start len : ℕ) (e : Utf8Error) → string_from start len (utf8_out (Err e)) ≡ refuse 34 start
no_string start len (NotUtf8 next) = refl
no_string start len Cut = refl

pub returns-in-Ok : goal.returns-in-Ok
returns-in-Ok c =
    rw (← string_goes_on _ _ _ _ c.in-Some.ensures c.in_ok-check.ensures _ c.in-Ok.ensures) (search rules)

pub returns-in-Err : goal.returns-in-Err
returns-in-Err c =
    rw c.refuse-in-Err.ensures
    (sym (no_string _ _ _) ∙ string_goes_on _ _ _ _ c.in-Some.ensures c.in_ok-check.ensures _ c.in-Err.ensures)
