-- The invariant: the end of all families is the end of the rest from the place on.
use Rattle.std.proofs.Common.{◌≡◌, ◌-◌}
use Rattle.semcode_records.specs.Records.{records, ends}
use Rattle.semcode_decode.specs.Block.{family_at}
use Rattle.semcode_decode.proofs.signature.families_end.Given as goal

abbrev pub invariant-loop-place : goal.invariant-loop-place
invariant-loop-place l =
    ends (records (family_at l.bytes) l.count l.at) ≡ ends (records (family_at l.bytes) (l.count - (l.place - l.at)) l.place)
