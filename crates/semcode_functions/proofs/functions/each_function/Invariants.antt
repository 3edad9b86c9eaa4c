-- What is told of the functions read so far, then of the rest from the place on.
use Prim.Native.Nat.{◌≤◌, ◌-◌}
use mathlib.Core.Path.{◌≡◌}
use lib.ListN.{length}
use Rattle.semcode_decode.specs.Layout as of
use Rattle.semcode_functions.specs.Maps.{last_is}
use Rattle.semcode_functions.proofs.LoopLaws.{Reading}
use Rattle.semcode_functions.proofs.functions.each_function.Given as goal

abbrev pub invariant-loop-at : goal.invariant-loop-at
invariant-loop-at l = (l.count ≤ 1024)
    × (length l.functions ≡ length l.initial.functions)
    × (length l.strings ≡ length l.initial.strings)
    × (length l.paths ≡ length l.initial.paths)
    × Reading l.header_rev (of.rooms (length l.initial.strings) l.symbols (length l.initial.paths) l.families) l.bytes 1024 (length l.initial.functions)
    l.cursor l.count l.at (last_is l.last)
    l.functions l.strings l.paths

abbrev pub decreases-loop-at : goal.decreases-loop-at
decreases-loop-at l = 1024 - l.count
