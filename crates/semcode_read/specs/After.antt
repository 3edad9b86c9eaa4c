-- How a path's component is found.
use Rattle.std.specs.Prelude.{ℕ, List}
use Rattle.local_format.specs.Out.{Out, ◌>>=◌}
use Rattle.semcode_records.specs.Records.{Taken, records, ends}
use Rattle.semcode_records.specs.Component.{Component, component_at}

-- the component after so many others
abbrev pub component_after : ℕ → ℕ → List ℕ → ℕ → ℕ → Out (Taken Component)
component_after revision event s skipped at = do
  place ← ends (records (component_at revision event s) skipped at)
  component_at revision event s place
