-- Slip 7 of the decoder's promise: two calls over files that hold the same section at one cursor, with lent tables equally long, leave the
-- same answer and the same tables.
use Prim.Native.Nat.{ℕ}
use mathlib.Core.Path.{◌≡◌, sym, ap, ap₂, ◌∙◌}
use mathlib.Core.List.{List}
use Rattle.local_format.specs.Out.{Out}
use Rattle.lent_table.specs.Lent.{lent}
use Rattle.derivation.specs.Rule.{four_rules}
use Rattle.evr0_section.specs.Head.{Room}
use Rattle.evr0_section.specs.Section.{Section, decode_section}
use Rattle.evr0_section.specs.Neighbours.{SameSection}
use Rattle.evr0_section.proofs.Neighbours.{sections_same}
use Rattle.evr0.specs.Answer.{Lent, lent_of, room_of, Answer, answer_of, proposition_starts, proof_starts, proof_depths, Filled, decode_in, Leaves}

module _ (s s' : List ℕ) (cursor : ℕ) (both : SameSection s s' cursor) where
  pub decoded_same : (t t' : Lent) → room_of t ≡ room_of t' → decode_in t s cursor ≡ decode_in t' s' cursor
  unfolding decode_section
  decoded_same t t' e = ap (λ (room : Room). decode_section room s cursor) e ∙ sections_same s s' cursor both four_rules (room_of t')

  module _ {before before' after after' : Lent} (long : room_of before ≡ room_of before') where
    pub filled_same : {x x' : Out Section} → x ≡ x' → Filled x before after → Filled x' before' after' → after ≡ after'
    filled_same e f f' =
        let a = f.propositions ∙ ap₂ (λ (r : Room) (x : Out Section). lent r.propositions (proposition_starts x)) long e ∙ sym f'.propositions in
        let b = f.proofs ∙ ap₂ (λ (r : Room) (x : Out Section). lent r.proofs (proof_starts x)) long e ∙ sym f'.proofs in
        let c = f.depths ∙ ap₂ (λ (r : Room) (x : Out Section). lent r.depths (proof_depths x)) long e ∙ sym f'.depths in
        ap₂ (λ (x y : List ℕ). lent_of x y after.depths) a b ∙ ap (λ (z : List ℕ). lent_of after'.propositions after'.proofs z) c

    pub calls_same : {given given' : Answer} → Leaves s cursor before after given → Leaves s' cursor before' after' given'
        → (given ≡ given') × (after ≡ after')
    calls_same l l' =
        let e = decoded_same before before' long in
        (l.answer ∙ ap (answer_of cursor) e ∙ sym l'.answer, filled_same e l.tables l'.tables)
