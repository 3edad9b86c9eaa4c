-- Slip 7 of the decoder with marks: two calls over files that hold the same section at one cursor, with lent tables equally long, leave the
-- same answer and the same tables.
use Prim.Native.Nat.{ℕ, min}
use mathlib.Core.Path.{◌≡◌, sym, ap, ap₂, ◌∙◌}
use mathlib.Core.List.{List}
use lib.ListN.{length}
use Rattle.local_format.specs.Out.{Out}
use Rattle.lent_table.specs.Lent.{lent}
use Rattle.derivation.specs.Rule.{four_rules}
use Rattle.evr0_section.specs.Head.{Room}
use Rattle.evr0_section.specs.Section.{Section, decode_section}
use Rattle.evr0_section.specs.Neighbours.{SameSection}
use Rattle.evr0_section.proofs.Neighbours.{sections_same}
use Rattle.evr0.specs.Answer as unmarked
use Rattle.evr0.specs.Answer.{Answer, answer_of}
use Rattle.evr0.proofs.Neighbours.{filled_same}
use Rattle.evr0_marks.specs.Answer.{Lent, with_marks, room_of, proof_marks, Filled, decode_in, Leaves}

module _ (s s' : List ℕ) (cursor : ℕ) (both : SameSection s s' cursor) (before before' : Lent)
    (others : unmarked.room_of before.others ≡ unmarked.room_of before'.others) (marks : length before.marks ≡ length before'.marks) where
  room_same : room_of before ≡ room_of before'
  room_same =
      ap₂ (λ (r : Room) (n : ℕ). record { propositions = r.propositions; proofs = r.proofs; depths = min r.depths n }) others marks

  pub decoded_same : decode_in before s cursor ≡ decode_in before' s' cursor
  unfolding decode_section
  decoded_same = ap (λ (room : Room). decode_section room s cursor) room_same ∙ sections_same s s' cursor both four_rules (room_of before')

  pub tables_same : {after after' : Lent} {x x' : Out Section} → x ≡ x' → Filled x before after → Filled x' before' after' → after ≡ after'
  tables_same e f f' =
      ap₂ with_marks (filled_same s s' cursor both others e f.others f'.others)
      (f.marks ∙ ap₂ (λ (n : ℕ) (x : Out Section). lent n (proof_marks x)) marks e ∙ sym f'.marks)

  pub marked_calls_same : {after after' : Lent} {given given' : Answer} → Leaves s cursor before after given → Leaves s' cursor before' after' given'
      → (given ≡ given') × (after ≡ after')
  marked_calls_same l l' =
      (l.answer ∙ ap (answer_of cursor) decoded_same ∙ sym l'.answer, tables_same decoded_same l.tables l'.tables)
