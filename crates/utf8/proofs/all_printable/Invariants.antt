-- The invariant: the bytes passed are no further above the space than `high`, and the rest is as it is.
use mathlib.Core.Path.{◌≡◌}
use Rattle.utf8.specs.Scan.{all_printable}
use Rattle.utf8.proofs.ScanLaws.{printable_from}
use Rattle.utf8.proofs.all_printable.Given as goal

abbrev pub invariant-loop-b : goal.invariant-loop-b
invariant-loop-b l = printable_from l.high l.bytes l.b-index ≡ all_printable l.bytes
