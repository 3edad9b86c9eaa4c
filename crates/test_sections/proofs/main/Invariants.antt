-- Each entry is taken off the list.
use Rattle.std.proofs.Common.{length}
use Rattle.test_sections.proofs.main.Given as goal

abbrev pub decreases-loop-entry : goal.decreases-loop-entry
decreases-loop-entry l = length l.rest
