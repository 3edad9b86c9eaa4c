-- The marks of sections that are decoded from bytes, by computation.
use mathlib.Core.Path.{◌≡◌, refl, ap, ◌∙◌}
use mathlib.Core.List.{[], ◌∷◌}
use Rattle.derivation.specs.InOrder.{in_order, gathered}
use Rattle.derivation.specs.Mark.{end_polarity, joined, mark_of, marks}
use Rattle.evr0_section.specs.Marks.{marks_of}
use Rattle.specimens.specs.Written.{written, propositions_from, Accepts}
use Rattle.specimens.specs.Examples.{joins, sides}
use Rattle.specimens.proofs.Computed.{decoded}
use Rattle.specimens.proofs.Shown.{accepts}
use Rattle.specimens.proofs.Small.{joins_accepted}

-- a join of a positive and a negative proof has mark 3, and so has all that stands on it
pub joins_marked : marks_of joins_accepted.decoded ≡ 1 ∷ 2 ∷ 3 ∷ 3 ∷ 3 ∷ 3 ∷ 3 ∷ []
unfolding decoded joins joined end_polarity gathered in_order mark_of marks
joins_marked = ap marks joins_accepted.same ∙ refl

-- a join of two positive proofs has mark 1, and so have an OP and a join upon it; a join of two negative ones has mark 2
pub sides_accepted : Accepts sides (1 ∷ 1 ∷ 1 ∷ 1 ∷ 2 ∷ 2 ∷ 2 ∷ 3 ∷ 3 ∷ 4 ∷ 4 ∷ [])
unfolding decoded written propositions_from sides
sides_accepted = accepts sides _ refl _ refl

pub sides_marked : marks_of sides_accepted.decoded ≡ 1 ∷ 1 ∷ 2 ∷ 2 ∷ 1 ∷ 2 ∷ 3 ∷ 1 ∷ 3 ∷ 3 ∷ 1 ∷ []
unfolding decoded sides joined end_polarity gathered in_order mark_of marks
sides_marked = ap marks sides_accepted.same ∙ refl
