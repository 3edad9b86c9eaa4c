-- Laws of a section's fields: a number of bytes, and a field as it stands in columns.
use Prim.Native.Nat.{ℕ, ◌+◌, ◌≤◌, ◌<◌}
use mathlib.Core.Path.{◌≡◌, sym, ap₂, ◌∙◌}
use mathlib.Core.List.{List}
use native.Mathlib.Omega.{arith}
use lib.ListN.{length, drop}
use lib.Seq.{drop-drop}
use borrow.Author.Tests.{le-leb, lt-leb}
use Rattle.local_format.specs.Out.{ok, refuse}
use Rattle.local_format.specs.Field.{le}
use Rattle.local_format.proofs.FieldLaws.{le_take}
use Rattle.byte_output.specs.Maps.{Writes}
use Rattle.byte_output.specs.declared.Output.{Output}
use Rattle.evr0_columns.specs.Layout.{Item, copied, in_bytes, in_groups}
use Rattle.column_fields.specs.Moved.{field_moved}
use Rattle.column_fields.specs.Took.{FieldMoved}

-- ---- A number of bytes
module _ (width : ℕ) (c : List ℕ) (at : ℕ) where
  pub plain_cut : length (drop at c) < width → refuse 76 (length c) ≡ (in_bytes width).get (length c) (drop at c)
  unfolding in_bytes copied
  plain_cut h = rw (lt-leb width (length (drop at c)) h)

  pub plain_whole : {v : ℕ} → width ≤ length (drop at c) → v ≡ le width (drop at c) 0
      → ok (record { value = v; rest = drop (at + width) c }) ≡ (in_bytes width).get (length c) (drop at c)
  unfolding in_bytes copied
  plain_whole h e =
      rw (le-leb width (length (drop at c)) h)
      (ap₂ (λ (n : ℕ) (s : List ℕ). ok (record { value = n; rest = s }))
      (e ∙ sym (le_take width (drop at c) width 0 (omega arith))) (sym (drop-drop width at c)))

-- ---- A field of a section, as it stands in columns
pub moved_puts : (item : Item) {c : List ℕ} {at : ℕ} {before after : Output} {next : ℕ} → FieldMoved in_bytes in_groups item c at before after next
    → Writes before (field_moved item c at) after
unfolding field_moved
moved_puts item t = t.puts
