-- Meets its contract. The invariant is the contract, of the components that are left, with the size of the kind that is known.
use Prim.Native.Nat.{ℕ, ◌<◌, ◌-◌}
use mathlib.Core.Path.{◌≡◌}
use Rattle.semcode_records.specs.Records.{records, ends}
use Rattle.semcode_records.specs.Component.{component_at}
use Rattle.semcode_records.specs.Sizes.{sizes, size_in}
use Rattle.semcode_records.proofs.component.pass_components.Given as goal

pub record Known (revision event kind size : ℕ) : Type 0 where
  pub is : size ≡ size_in (sizes revision event) kind
  pub some : 0 < size
  pub small : size < 256

abbrev pub invariant-loop-passed : goal.invariant-loop-passed
invariant-loop-passed l =
    (ends (records (component_at l.header_rev l.kind l.bytes) l.component_count l.at) ≡ ends
    (records (component_at l.header_rev l.kind l.bytes) (l.component_count - l.passed) l.cursor))
    × Known l.header_rev l.kind l.known l.size
