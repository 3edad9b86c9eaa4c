-- The invariant: the end of all components is the end of the rest from the cursor on.
use Rattle.std.proofs.Common.{◌≡◌, ◌-◌}
use Rattle.semcode_records.specs.Records.{records, ends}
use Rattle.semcode_records.specs.Component.{component_at}
use Rattle.semcode_records.proofs.component.skip_components.Given as goal

abbrev pub invariant-loop : goal.invariant-loop
invariant-loop l =
    ends (records (component_at l.header_rev l.kind l.bytes) l.component_count l.at)
    ≡ ends (records (component_at l.header_rev l.kind l.bytes) (l.component_count - l.counter) l.cursor)
