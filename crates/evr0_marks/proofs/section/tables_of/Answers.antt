-- The parts of the section are taken off the bytes; its tables lie in the payload and are the section's, by `FillLaws`.
use Rattle.evr0_marks.proofs.FillLaws.{total, may_mark, viewed}
use Rattle.evr0_marks.proofs.section.tables_of.Goals as goal

pub invariant_of-result : goal.invariant_of-result
invariant_of-result c =
    let of = c.requires.1 in
    record {
      there = may_mark of.due _ _ c.payload_of-payload.ensures c.front.ensures of.is c.witness_size-witness_size.ensures.0
          c.start_before-parents_at.ensures (rw c.witness_size-witness_size.ensures.0 at c.start_before-witnesses_at.ensures);
    }

pub returns-clause-is : goal.returns-clause-is
returns-clause-is c held of =
    viewed of.due _ _ c.payload_of-payload.ensures c.front.ensures of.is c.witness_size-witness_size.ensures.0
    c.start_before-parents_at.ensures (rw c.witness_size-witness_size.ensures.0 at c.start_before-witnesses_at.ensures)

pub returns-clause-total : goal.returns-clause-total
returns-clause-total c =
    total c.requires.1.due _ _ c.payload_of-payload.ensures c.front.ensures
