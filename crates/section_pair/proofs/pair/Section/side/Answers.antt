-- Meets its contract: the propositions of a decoded section lie in its payload.
use Rattle.section_pair.proofs.PairLaws.{there_told}
use Rattle.section_pair.proofs.pair.Section.side.Goals as goal

pub invariant_of-result : goal.invariant_of-result
invariant_of-result c = record { there = there_told c.args.self.told c.payload_of.ensures c.front.ensures }
