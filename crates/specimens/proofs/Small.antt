-- Sections of a few proofs, each decoded whole by computation.
use mathlib.Core.Path.{◌≡◌, refl}
use mathlib.Core.List.{[], ◌∷◌}
use native.Mathlib.Omega.{arith}
use Rattle.local_format.specs.Out.{refuse}
use Rattle.derivation.specs.Walk.{Walk, strays, unwitnessed, AtEnd}
use Rattle.derivation.proofs.Reach.{reaches, can_pick, reached}
use Rattle.evr0_section.specs.Section.{decode_section}
use Rattle.specimens.proofs.Computed.{decoded}
use Rattle.specimens.specs.Written.{written, propositions_from, enough, Accepts, Refuses}
use Rattle.specimens.specs.Examples.{joins, other_authority, other_proposition, witness_of_other, wrong_polarity, past_the_count}
use Rattle.specimens.proofs.Shown.{accepts, refuses}

-- a join of a positive and a negative proof, OP on a join and on an OP, joins upon joins
pub joins_accepted : Accepts joins (1 ∷ 1 ∷ 2 ∷ 3 ∷ 4 ∷ 5 ∷ 6 ∷ [])
unfolding decoded written propositions_from joins
joins_accepted = accepts joins _ refl _ refl

-- ---- A walk that fails, of each kind

-- a proof on the walk with another authority, or another proposition, than the start
pub other_authority_lem : Refuses other_authority 26 291
unfolding decoded written propositions_from other_authority reaches can_pick
other_authority_lem =
    let w : Walk other_authority 1 (0 ∷ []) 0 = reached other_authority 1 (0 ∷ []) 0 refl in
    refuses other_authority _ refl 26 283 refl 1 (0 ∷ []) 0 w (strays 1 0 w (λ q. omega (arith, q.authority)))

pub other_proposition_lem : Refuses other_proposition 26 306
unfolding decoded written propositions_from other_proposition reaches can_pick
other_proposition_lem =
    let w : Walk other_proposition 1 (0 ∷ []) 0 = reached other_proposition 1 (0 ∷ []) 0 refl in
    refuses other_proposition _ refl 26 298 refl 1 (0 ∷ []) 0 w (strays 1 0 w (λ q. omega (arith, q.proposition)))

-- at its end, a witness of another proposition, or of the wrong polarity
pub witness_of_other_lem : Refuses witness_of_other 28 8
unfolding decoded written propositions_from witness_of_other reaches can_pick AtEnd
witness_of_other_lem =
    let w : Walk witness_of_other 0 [] 0 = reached witness_of_other 0 [] 0 refl in
    refuses witness_of_other _ refl 28 0 refl 0 [] 0 w (unwitnessed 0 w refl (λ q. omega (arith, q.proposition)))

pub wrong_polarity_lem : Refuses wrong_polarity 29 8
unfolding decoded written propositions_from wrong_polarity reaches can_pick AtEnd
wrong_polarity_lem =
    let w : Walk wrong_polarity 0 [] 0 = reached wrong_polarity 0 [] 0 refl in
    refuses wrong_polarity _ refl 29 0 refl 0 [] 0 w (unwitnessed 0 w refl (λ q. omega (arith, q.polarity)))

-- ---- 19 is named where 21 applies too
pub named_19 : decode_section enough (written past_the_count) 0 ≡ refuse 19 115
unfolding decoded written propositions_from past_the_count
named_19 = refl
