-- Which propositions of sections that are decoded from bytes are authorised, by computation.
use mathlib.Core.Path.{◌≡◌, refl, ap, ◌∙◌}
use mathlib.Core.Bool.{true, false}
use mathlib.Core.List.{[], ◌∷◌}
use Rattle.derivation.specs.Section as derivation
use Rattle.derivation.specs.Section.{proof_at}
use Rattle.derivation.specs.InOrder.{in_order, gathered}
use Rattle.derivation.specs.Mark.{end_polarity, joined, mark_of, marks}
use Rattle.derivation.specs.Friendly.{operates, authorised}
use Rattle.evr0_section.specs.Section.{section_of}
use Rattle.specimens.specs.Written.{written, propositions_from, Accepts}
use Rattle.specimens.specs.Examples.{joins, sides, op_on_negative}
use Rattle.specimens.proofs.Computed.{decoded}
use Rattle.specimens.proofs.Shown.{accepts}
use Rattle.specimens.proofs.Small.{joins_accepted}
use Rattle.specimens.proofs.Marked.{sides_accepted}

-- document 02's own case: the one OP proof is on a negative witness. It was authorised by document 01, for its operation, and is no longer
pub negative_accepted : Accepts op_on_negative (1 ∷ 2 ∷ [])
unfolding decoded written propositions_from op_on_negative
negative_accepted = accepts op_on_negative _ refl _ refl

pub once : (proof_at (section_of negative_accepted.decoded.tables) 1).operation ≡ 1
unfolding decoded op_on_negative
once = ap (λ (s : derivation.Section). (proof_at s 1).operation) negative_accepted.same ∙ refl

pub no_longer : authorised (section_of negative_accepted.decoded.tables) 0 ≡ false
unfolding decoded op_on_negative joined end_polarity gathered in_order mark_of marks operates authorised
no_longer = ap (λ (s : derivation.Section). authorised s 0) negative_accepted.same ∙ refl

-- nor is one whose OP proofs are on a join of both; an OP proof on a join of two positive proofs is enough, whatever stands beside it
-- Kept (8d): an example of the definition, for readers.
pub joins_not : authorised (section_of joins_accepted.decoded.tables) 0 ≡ false
unfolding decoded joins joined end_polarity gathered in_order mark_of marks operates authorised
joins_not = ap (λ (s : derivation.Section). authorised s 0) joins_accepted.same ∙ refl

-- Kept (8d): an example of the definition, for readers.
pub sides_authorised : authorised (section_of sides_accepted.decoded.tables) 0 ≡ true
unfolding decoded sides joined end_polarity gathered in_order mark_of marks operates authorised
sides_authorised = ap (λ (s : derivation.Section). authorised s 0) sides_accepted.same ∙ refl
