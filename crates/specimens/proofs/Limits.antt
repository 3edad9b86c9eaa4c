-- A payload that is told to be longer than the limit: refused by 3 where its length stands, whatever follows. By the frame's tests in their order.
use Prim.Native.Nat.{ℕ, ◌+◌, ◌≤◌, ◌<◌}
use mathlib.Core.Path.{◌≡◌}
use mathlib.Core.Bool.{true}
use mathlib.Core.List.{List}
use borrow.Author.Tests.{le-leb, lt-leb}
use Rattle.local_format.specs.Out.{refuse}
use Rattle.local_format.specs.Field.{whole, field_at}
use Rattle.local_format.specs.Tag.{tag_at, evr0}
use Rattle.evr0_section.specs.Section.{frame_at}

module _ (s : List ℕ) (cursor : ℕ) (tag : tag_at evr0 s cursor ≡ true) (len start : ℕ)
    (size : field_at 4 s (cursor + 4) ≡ whole (record { value = len; next = start })) where
  pub too_long_lem : 1 ≤ len → 4194304 < len → refuse 3 (cursor + 4) ≡ frame_at s cursor
  unfolding frame_at
  too_long_lem k h = rw (tag, size, le-leb 1 len k, lt-leb len 4194304 h)
