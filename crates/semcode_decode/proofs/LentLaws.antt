-- A decoded block and its lent tables, at a base: on acceptance as many starts as the counts say, and then zeros.
use mathlib.Core.Path.{◌≡◌, refl, ap, sym, ◌∙◌}
use Prim.Native.Nat.{ℕ}
use mathlib.Core.List.{List}
use lib.ListN.{length, length-map}
use lib.Seq.{take_at}
use Rattle.local_format.specs.Out.{Out, ok, refused, based}
use Rattle.local_format.proofs.OutLaws.{never, ok_same}
use Rattle.lent_table.specs.Lent.{Front}
use Rattle.semcode_decode.specs.Block.{Block}
use Rattle.semcode_decode.specs.Layout.{Layout, layout, string_starts, path_starts, block_families, Lent, Leaves}
use Rattle.semcode_decode.specs.Begun.{Lays}

module _ (base : ℕ) where
  -- an accepted block is the same at every base
  pub accepted : (x : Out Block) {l : Layout} → ok l ≡ layout x
      → (ok l ≡ layout (based base x))
      × (string_starts x ≡ string_starts (based base x))
      × (path_starts x ≡ path_starts (based base x))
      × (block_families x ≡ block_families (based base x))
      × (length (string_starts x) ≡ l.strings)
      × (length (path_starts x) ≡ l.paths)
  accepted (ok b) e = (
    e,
    refl,
    refl,
    refl,
    length-map b.strings.entries _ ∙ ap (λ (l : Layout). l.strings) (sym (ok_same e)),
    length-map b.ownership.table.entries _ ∙ ap (λ (l : Layout). l.paths) (sym (ok_same e)),
  )
  accepted (refused r) e = absurd (never (sym e))

-- the starts stand at the front of the tables
pub begun : (x : Out Block) {l : Layout} {strings paths strings' paths' : List ℕ} → Lays x strings paths strings' paths' (ok l)
    → Front (string_starts x) strings' × Front (path_starts x) paths'
begun (ok b) h = (rw h.of_strings (take_at _ _ _ refl), rw h.of_paths (take_at _ _ _ refl))
begun (refused r) h = (refl, refl)

-- the same is left where a map of the answer is told
pub mapped : {A B : Type 0} (f : A → B) {block : Out Block} {before after : Lent} {told due : A} {answer : B} → Leaves block before after told due
    → answer ≡ f told → Leaves block before after answer (f due)
mapped f l e = record { answer = e ∙ ap f l.answer; strings = l.strings; paths = l.paths; families = l.families }
