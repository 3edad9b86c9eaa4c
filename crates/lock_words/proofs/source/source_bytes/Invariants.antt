-- Meets its contract. The invariant: the bytes of the first i words are there.
use Prim.Native.Nat.{◌*◌}
use mathlib.Core.Path.{◌≡◌}
use lib.ListN.{length, take}
use Rattle.lock_words.specs.Maps.{source_is}
use Rattle.lock_words.proofs.source.source_bytes.Given as goal

abbrev pub invariant-loop-i : goal.invariant-loop-i
invariant-loop-i l = (length l.bytes ≡ 32) × (take (8 * l.i) l.bytes ≡ take (8 * l.i) (source_is l.source))
