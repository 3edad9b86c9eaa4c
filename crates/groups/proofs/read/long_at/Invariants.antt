-- The invariant: the number is what the groups so far make, and the number from here on, which is at most the room.
use lib.ListN.{length, drop}
use Rattle.groups.specs.Groups.{number_of}
use Rattle.groups.specs.Maps.{width_of}
use Rattle.groups.proofs.ReadLaws as law
use Rattle.groups.proofs.read.long_at.Given as goal

abbrev pub invariant-loop-i : goal.invariant-loop-i
invariant-loop-i l =
    law.Reading l.bytes (number_of (width_of l.fn.width) (length l.bytes) (drop l.at l.bytes)) l.room l.least l.unit l.value l.i
