-- The sizes of sites and of components, by which the code passes them: `FrontLaws` and `SizeLaws` say that they are those of `Path.front_at` and of
-- `Component.component_at`.
use Rattle.std.specs.Prelude.{ℕ, ◌+◌, ◌*◌, ◌/◌, ◌%◌, ◌^◌, cond, leb, eqb}

-- the bytes of a site behind an event's kind and mode, where modes stand: a borrow on frame entry has none
abbrev pub site_size : ℕ → ℕ → ℕ
site_size kind mode = cond (eqb (kind + mode) 0) 0 4

-- the bytes of a component of each kind that a path with this event kind can have, 8 bits for a kind; 0 where it can't
unfoldable pub sizes : ℕ → ℕ → ℕ
sizes revision event = cond (leb 22 revision) (cond (eqb event 1) 0x05000503 0x05070503) 0x0503

unfoldable pub size_in : ℕ → ℕ → ℕ
size_in table kind = cond (leb kind 3) (table / (2 ^ (8 * kind)) % 256) 0
