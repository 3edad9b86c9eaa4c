-- One path of an ownership section.
use Rattle.std.specs.Prelude.{ℕ, List, cond, leb, eqb, length}
use Rattle.local_format.specs.Out.{Out, ok, refuse, check, ◌>>=◌, ◌>>◌}
use Rattle.local_format.specs.Field.{field}
use Rattle.semcode_records.specs.Records.{Taken, taken, Table, records}
use Rattle.semcode_records.specs.Component.{Component, component_at}

-- ---- The event

-- where a borrow takes effect
pub data Activation : Type 0 where
  no_activation frame_entry : Activation
  borrow_store_site : ℕ → Activation

-- where a write takes effect
pub data Execution : Type 0 where
  no_execution : Execution
  write_store_site write_record_site : ℕ → Execution

pub data Event : Type 0 where
  borrow : Activation → Event
  write : Execution → Event

unfoldable pub activation_at : List ℕ → ℕ → Out (Taken Activation)
activation_at s at = do
  mode ← field 42 1 s at
  check (leb mode.value 1) 44 mode.next
  cond (eqb mode.value 0) (taken frame_entry mode.next) (do
    site ← field 43 4 s mode.next
    taken (borrow_store_site site.value) site.next)

unfoldable pub execution_at : List ℕ → ℕ → Out (Taken Execution)
execution_at s at = do
  mode ← field 45 1 s at
  check (leb mode.value 1) 47 mode.next
  site ← field 46 4 s mode.next
  taken (cond (eqb mode.value 0) (write_store_site site.value) (write_record_site site.value)) site.next

-- a mode stands here from revision 21 on; below, there is none
abbrev pub mode_at : {A : Type 0} → ℕ → A → (ℕ → Out (Taken A)) → ℕ → Out (Taken A)
mode_at revision none read at = cond (leb 21 revision) (read at) (taken none at)

-- an event by its kind; an unknown kind brings no mode
pub data Kinded : Type 0 where
  known : Event → Kinded
  unknown : Kinded

abbrev pub borrowed : Out (Taken Activation) → Out (Taken Kinded)
borrowed x = do
  activation ← x
  taken (known (borrow activation.value)) activation.next

abbrev pub written : Out (Taken Execution) → Out (Taken Kinded)
written x = do
  execution ← x
  taken (known (write execution.value)) execution.next

-- what follows an event's kind
unfoldable pub event_of : ℕ → ℕ → List ℕ → ℕ → Out (Taken Kinded)
event_of kind revision s at =
    cond (eqb kind 0) (borrowed (mode_at revision no_activation (activation_at s) at))
    (cond (eqb kind 1) (written (mode_at revision no_execution (execution_at s) at)) (taken unknown at))

-- an event of a known kind; else the refusal with this number at this place
abbrev pub or_unknown : ℕ → ℕ → Kinded → Out Event
or_unknown number at (known e) = ok e
or_unknown number at unknown = refuse number at

-- the byte of an event's kind
abbrev pub kind_of_event : Event → ℕ
kind_of_event (borrow _) = 0
kind_of_event (write _) = 1

-- ---- The path

pub record Path : Type 0 where
  pub event : Event
  pub root : ℕ
  pub components : Table Component

-- what stands in front of a path's components: the byte of its event's kind, its event, its root, how many components it has, and where they start
pub record Front : Type 0 where
  pub kind : ℕ
  pub kinded : Kinded
  pub root : ℕ
  pub count : ℕ
  pub start : ℕ

unfoldable pub front_at : ℕ → List ℕ → ℕ → Out Front
front_at revision s at = do
  kind ← field 41 1 s at
  kinded ← event_of kind.value revision s kind.next
  root ← field 48 4 s kinded.next
  count ← field 49 2 s root.next
  ok (record { kind = kind.value; kinded = kinded.value; root = root.value; count = count.value; start = count.next })

unfoldable pub path_at : ℕ → List ℕ → ℕ → Out (Taken Path)
path_at revision s at = do
  front ← front_at revision s at
  components ← records (component_at revision front.kind s) front.count front.start
  event ← or_unknown 60 components.end front.kinded
  taken (record { event = event; root = front.root; components = components }) components.end

-- a path read back: its event, its root, how many components it has, and where they start
pub record Head : Type 0 where
  pub event : Event
  pub root : ℕ
  pub count : ℕ
  pub start : ℕ

abbrev pub head_of : Path → Head
head_of p =
    record { event = p.event; root = p.root; count = length p.components.entries; start = p.components.start }

unfoldable pub head_at : ℕ → List ℕ → ℕ → Out (Taken Head)
head_at revision s at = do
  path ← path_at revision s at
  taken (head_of path.value) path.next
