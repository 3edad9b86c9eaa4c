-- A section that was decoded is held by its payload, by the starts in the lent table and by the places that follow from its counts; so the
-- pass over its proofs may rely on its tables, which are the section's.
use Prim.Native.Nat.{ℕ, ◌-◌, ◌*◌}
use mathlib.Core.Path.{◌≡◌, sym, ap, ap₂, ◌∙◌}
use mathlib.Core.List.{List}
use native.Mathlib.Omega.{arith}
use lib.ListN.{length, take}
use Rattle.evr0_section.specs.Head.{Counts, span_width, witness_size}
use Rattle.evr0_section.specs.Section.{Section, section_of, tables_of}
use Rattle.evr0_section.specs.Rows.{starts_of}
use Rattle.evr0_pass.specs.View.{Layout, TablesThere, view}
use Rattle.evr0_pass.proofs.ViewOf.{layout_of, section_view, tables_there, starts_total}
use Rattle.local_format.specs.Out.{ok}
use Rattle.evr0.proofs.CheckLaws.{same_parts}
use Rattle.evr0_read.specs.Listing.{payload_to}
use Rattle.evr0_read.proofs.TableLaws.{facts, parents_at_lem, witnesses_at_lem}
use Rattle.evr0_marks.specs.Steps.{Due}

module _ {bytes : List ℕ} {cursor end : ℕ} {counts : Counts} {proofs held : List ℕ} (due : Due bytes cursor end counts proofs held)
    (p starts : List ℕ) (part : p ≡ payload_to bytes cursor end) (front : starts ≡ take counts.proofs proofs) where
  abbrev d : Section
  d = due.section

  payload_is : p ≡ payload_to bytes cursor d.cursor
  payload_is = part ∙ ap (payload_to bytes cursor) (sym due.ends)

  pub read : tables_of due.rules due.room p ≡ ok d.tables
  read = ap (tables_of due.rules due.room) payload_is ∙ (facts due.rules due.room bytes cursor d due.decoded).read

  pub starts_are : starts ≡ starts_of d.tables.proofs.entries
  starts_are = front ∙ due.started

  pub total : length starts ≡ counts.proofs
  total = ap length starts_are ∙ starts_total due.rules due.room p d.tables read ∙ ap (λ (c : Counts). c.proofs) due.counted

  module _ {schema : ℕ} (is : d.tables.head.schema ≡ schema) {size witnesses_at parents_at : ℕ} (sized : size ≡ witness_size (span_width schema))
      (cells : parents_at ≡ length p - 4 * counts.parents) (seen : witnesses_at ≡ parents_at - witness_size (span_width schema) * counts.witnesses) where
    abbrev layout : Layout
    layout = record { counts = counts; witness_size = size; witnesses_at = witnesses_at; parents_at = parents_at }

    layout_is : layout_of d.tables ≡ layout
    layout_is =
        let a = parents_at_lem due.rules due.room bytes cursor d due.decoded in
        let b = witnesses_at_lem due.rules due.room bytes cursor d due.decoded in
        let q = ap₂ (λ (m n : ℕ). witness_size (span_width m) * n) is (ap (λ (c : Counts). c.witnesses) due.counted) in
        let l = ap length payload_is in
        let m = ap (λ (c : Counts). c.parents) due.counted in
        same_parts due.counted (ap (λ (n : ℕ). witness_size (span_width n)) is ∙ sym sized) (omega (arith, a, b, q, l, m, cells, seen))
        (omega (arith, a, b, q, l, m, cells, seen))

    pub may_mark : TablesThere p starts layout
    may_mark = rw (starts_are, ← layout_is) (tables_there due.rules due.room p d.tables read)

    pub viewed : view due.rules p starts layout ≡ section_of d.tables
    viewed = rw (starts_are, ← layout_is) (sym (section_view due.rules due.room p d.tables read))
