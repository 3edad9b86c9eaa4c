-- What an output held and where it stood, before bytes were written into it and after.
use Rattle.std.specs.Prelude.{ℕ, ◌≡◌, List, length}
use Rattle.byte_output.specs.Written.{Written}
use Rattle.byte_output.specs.declared.Output.{Output}

-- the same buffer, whatever was written
pub record Same (before after : Output) : Type 0 where
  pub name : after.bytes.ghost_name ≡ before.bytes.ghost_name
  pub long : length after.bytes.now ≡ length before.bytes.now

-- these bytes were written, from the place of the next byte on
pub record Writes (before : Output) (bytes : List ℕ) (after : Output) : Type 0 where
  pub same : Same before after
  pub written : Written before.bytes.now before.next bytes after.bytes.now after.next
