-- Components and events by numbers.
use Rattle.std.specs.Prelude.{ℕ}
use Rattle.semcode_records.specs.Component.{Component, tuple_index, field_symbol, variant, sequence_index}
use Rattle.semcode_records.specs.Path.{Event, borrow, write, no_activation, frame_entry, borrow_store_site, no_execution, write_store_site, write_record_site}

-- a component by its kind's byte, and its one or two numbers
pub record Parts : Type 0 where
  pub kind : ℕ
  pub first : ℕ
  pub second : ℕ

abbrev pub parts : Component → Parts
parts (tuple_index index) = record { kind = 0; first = index; second = 0 }
parts (field_symbol symbol) = record { kind = 1; first = symbol; second = 0 }
parts (variant which index) = record { kind = 2; first = which; second = index }
parts (sequence_index index) = record { kind = 3; first = index; second = 0 }

-- an event's number and its site, as in C's `FalgnustEvent`
pub record Numbered : Type 0 where
  pub event : ℕ
  pub site : ℕ

abbrev pub numbered : Event → Numbered
numbered (borrow no_activation) = record { event = 0; site = 0 }
numbered (borrow frame_entry) = record { event = 1; site = 0 }
numbered (borrow (borrow_store_site site)) = record { event = 2; site = site }
numbered (write no_execution) = record { event = 3; site = 0 }
numbered (write (write_store_site site)) = record { event = 4; site = site }
numbered (write (write_record_site site)) = record { event = 5; site = site }
