-- Rounds of small sections, and why 25 and 26 of every proof come first: by computation.
use mathlib.Core.Path.{◌≡◌, refl}
use mathlib.Core.List.{[], ◌∷◌}
use Rattle.local_format.specs.Out.{ok, refuse}
use Rattle.derivation.specs.Section.{proof_at, witness_at, parent_at, proof_total}
use Rattle.derivation.specs.Rule.{polarity_fits}
use Rattle.derivation.specs.Pass.{agrees, parents_from, witnesses_from, depth_of, depths_from, depths}
use Rattle.derivation.specs.InOrder.{in_order, gathered}
use Rattle.rounds.specs.Rounds.{is_marked, all_marked, turn, turns, after_rounds, none_left, kin_from, rounds}
use Rattle.rounds.specs.Height.{height_of, heights}
use Rattle.rounds.specs.Sample.{joined, upwards, on_itself, ops_from, up_from, chain_then}

-- Kept (8d): an example of the definition, for readers.
joined_rounds : rounds 0 joined ≡ ok (1 ∷ 1 ∷ 2 ∷ 3 ∷ 2 ∷ [])
unfolding is_marked all_marked turn turns after_rounds none_left kin_from rounds proof_at parent_at proof_total parents_from agrees joined
joined_rounds = refl

-- Kept (8d): an example of the definition, for readers.
joined_heights : heights joined ≡ 1 ∷ 1 ∷ 2 ∷ 3 ∷ 2 ∷ []
unfolding gathered in_order height_of heights proof_at parent_at proof_total joined
joined_heights = refl

-- ---- 25 is needed: without it a round is not the depth

-- the proof on the one after it is marked in round 2, and its depth, made in order, is 1
upwards_rounds : after_rounds upwards 256 ≡ 2 ∷ 1 ∷ []
unfolding is_marked all_marked turn turns after_rounds proof_at parent_at proof_total upwards
upwards_rounds = refl

upwards_heights : heights upwards ≡ 1 ∷ 1 ∷ []
unfolding gathered in_order height_of heights proof_at parent_at proof_total upwards
upwards_heights = refl

-- the proof on itself is never marked, and no depth is above 256
on_itself_rounds : after_rounds on_itself 256 ≡ 1 ∷ 0 ∷ []
unfolding is_marked all_marked turn turns after_rounds proof_at parent_at proof_total on_itself
on_itself_rounds = refl

on_itself_heights : heights on_itself ≡ 1 ∷ 1 ∷ []
unfolding gathered in_order height_of heights proof_at parent_at proof_total on_itself
on_itself_heights = refl

-- both are refused with 25
upwards_25 : rounds 0 upwards ≡ refuse 25 0
unfolding kin_from rounds proof_at parent_at proof_total parents_from agrees upwards
upwards_25 = refl

-- Kept (8d): an example of the definition, for readers.
on_itself_25 : rounds 0 on_itself ≡ refuse 25 0
unfolding kin_from rounds proof_at parent_at proof_total parents_from agrees on_itself
on_itself_25 = refl

-- ---- 25 or 26 of a later proof goes before an earlier proof's 27, which the last pass names: 257 proofs in a chain, and one more

later_25 : rounds 0 (chain_then 256 7 257) ≡ refuse 25 1024
unfolding kin_from rounds proof_at parent_at proof_total parents_from agrees ops_from up_from chain_then
later_25 = refl

later_26 : rounds 0 (chain_then 256 8 0) ≡ refuse 26 1024
unfolding kin_from rounds proof_at parent_at proof_total parents_from agrees ops_from up_from chain_then
later_26 = refl

earlier_27 : depths 0 (chain_then 256 7 257) ≡ refuse 27 0
unfolding proof_at witness_at parent_at proof_total parents_from agrees witnesses_from polarity_fits depth_of depths_from depths ops_from up_from chain_then
earlier_27 = refl

-- Kept (8d): an example of the definition, for readers.
earlier_27_too : depths 0 (chain_then 256 8 0) ≡ refuse 27 0
unfolding proof_at witness_at parent_at proof_total parents_from agrees witnesses_from polarity_fits depth_of depths_from depths ops_from up_from chain_then
earlier_27_too = refl
