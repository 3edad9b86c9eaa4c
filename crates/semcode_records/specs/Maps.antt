-- From the code's structs and enums to the definitions' types.
use Rattle.std.specs.Prelude.{◌≡◌, ℕ, ◌<◌, ◌^◌, Option, Some, None, Result}
use Rattle.local_format.specs.Out.{Out}
use Rattle.local_format.specs.Maps.{answer_out}
use Rattle.local_format.specs.declared.field.Field.{Field}
use Rattle.local_format.specs.declared.refusal.Refusal.{Refusal}
use Rattle.semcode_records.specs.Records.{Taken, next_of}
use Rattle.semcode_records.specs.Symbol as of_symbol
use Rattle.semcode_records.specs.Component as of_component
use Rattle.semcode_records.specs.Path as of_path
use Rattle.semcode_records.specs.declared.symbol.DecodedDebugSymbol.{DecodedDebugSymbol}
use Rattle.semcode_records.specs.declared.component.DecodedAccessPathComponent.{DecodedAccessPathComponent}
use Rattle.semcode_records.specs.declared.component.DecodedAccessPathComponent.TheVariants.{TupleIndex, FieldSymbol, AdtPayload, SequenceIndexStatic}
use Rattle.semcode_records.specs.declared.path.DecodedBorrowActivation.{DecodedBorrowActivation}
use Rattle.semcode_records.specs.declared.path.DecodedBorrowActivation.TheVariants as activates
use Rattle.semcode_records.specs.declared.path.DecodedWriteExecution.{DecodedWriteExecution}
use Rattle.semcode_records.specs.declared.path.DecodedWriteExecution.TheVariants as executes
use Rattle.semcode_records.specs.declared.path.DecodedEvent.{DecodedEvent}
use Rattle.semcode_records.specs.declared.path.DecodedEvent.TheVariants.{Borrow, Write}
use Rattle.semcode_records.specs.declared.path.DecodedAccessPath.{DecodedAccessPath}
use Rattle.semcode_records.specs.declared.path.Front.{Front}

-- ---- Values

abbrev pub symbol_is : DecodedDebugSymbol → of_symbol.Symbol
symbol_is d = record { pc = d.pc; line = d.line; column = d.col }

abbrev pub component_is : DecodedAccessPathComponent → of_component.Component
component_is (TupleIndex i) = of_component.tuple_index i
component_is (FieldSymbol f) = of_component.field_symbol f
component_is (AdtPayload v i) = of_component.variant v i
component_is (SequenceIndexStatic i) = of_component.sequence_index i

abbrev pub activation_is : DecodedBorrowActivation → of_path.Activation
activation_is activates.None = of_path.no_activation
activation_is activates.FrameEntry = of_path.frame_entry
activation_is (activates.StoreVarSite a) = of_path.borrow_store_site a

abbrev pub execution_is : DecodedWriteExecution → of_path.Execution
execution_is executes.None = of_path.no_execution
execution_is (executes.StoreVarSite a) = of_path.write_store_site a
execution_is (executes.MakeRecordSite a) = of_path.write_record_site a

abbrev pub event_is : DecodedEvent → of_path.Event
event_is (Borrow a) = of_path.borrow (activation_is a)
event_is (Write e) = of_path.write (execution_is e)

-- a path's event where its kind is known
abbrev pub kinded_is : Option DecodedEvent → of_path.Kinded
kinded_is (Some e) = of_path.known (event_is e)
kinded_is None = of_path.unknown

abbrev pub front_is : Front → of_path.Front
front_is f =
    record { kind = f.kind; kinded = kinded_is f.event; root = f.root_symbol_id; count = f.component_count; start = f.components_start }

abbrev pub head_is : DecodedAccessPath → of_path.Head
head_is p =
    record { event = event_is p.event; root = p.root_symbol_id; count = p.component_count; start = p.components_start }

-- ---- What was read, and the place after it

abbrev pub taken_out : {T A : Type 0} → (T → A) → Field T → Taken A
taken_out value f = record { value = value f.value; next = f.next }

-- these are the answers of a closure that tells where each record ends, of those that this reader reads
abbrev pub Tells : {A : Type 0} → (ℕ → Out (Taken A)) → (ℕ → Result ℕ Refusal → Type 0) → Type 0
Tells read answers = (place : ℕ) (r : Result ℕ Refusal) → place < 2 ^ 64 → answers place r → answer_out (λ end. end) r ≡ next_of (read place)
