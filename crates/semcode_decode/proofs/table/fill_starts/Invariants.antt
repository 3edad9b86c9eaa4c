-- The invariant: the records read so far, then the rest from the cursor on.
use Rattle.std.proofs.Common.{◌<◌, ◌^◌, ℕ, length}
use Rattle.local_format.specs.Out.{Out}
use Rattle.semcode_records.specs.Records.{Taken}
use Rattle.semcode_records.specs.Maps.{Tells}
use Rattle.semcode_decode.proofs.TableLaws.{Filling}
use Rattle.semcode_decode.proofs.table.fill_starts.Given as goal

abbrev pub invariant-loop-start : goal.invariant-loop-start
invariant-loop-start g l =
    record {
      fits : l.cursor < 2 ^ 64;
      filling : (read : ℕ → Out (Taken (Unit {0}))) → Tells read (goal.F-post g l.end)
          → Filling read (length l.fn.starts) l.at l.start-index l.cursor l.start-items;
    }
