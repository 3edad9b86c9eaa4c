-- The rounds or their refusal, from the checks of the parents and from the table after 256 rounds; and what the lent table then holds.
use Prim.Native.Nat.{ℕ, ◌≤◌}
use mathlib.Core.Path.{◌≡◌, sym, ap, ap₂, ◌∙◌}
use mathlib.Core.List.{List, ◌++◌}
use native.Mathlib.Omega.{arith}
use lib.ListN.{length, take, drop, length-append, length-drop}
use lib.Seq.{take_at}
use Rattle.local_format.specs.Refusal.{Refusal}
use Rattle.local_format.specs.Out.{Out, ok, refused}
use Rattle.local_format.proofs.OutLaws.{never, ok_same}
use Rattle.lent_table.specs.Lent.{lent}
use Rattle.derivation.specs.Section.{Section}
use Rattle.rounds.specs.Rounds.{kin, rounds}
use Rattle.evr0_pass.specs.Maps.{done_in}
use Rattle.evr0_rounds.specs.Steps.{Done, Fills}

module _ (cells_at : ℕ) (s : Section) where
  pub kin_refuses : {q : Refusal} → kin cells_at s ≡ refused q → rounds cells_at s ≡ refused q
  unfolding rounds
  kin_refuses e = rw e

  module _ (pass : kin cells_at s ≡ ok tt) {t : List ℕ} {given : Out (Unit {0})} (d : Done s t given) where
    pub one_left : {q : Refusal} → given ≡ refused q → rounds cells_at s ≡ refused q
    unfolding rounds
    one_left e = rw (pass, ← d.answer, e)

    pub all_made : given ≡ ok tt → rounds cells_at s ≡ ok t
    unfolding rounds
    all_made e = rw (pass, ← d.answer, e, ← d.rounds)

module _ {x : Out (List ℕ)} {before after : List ℕ} where
  pub not_filled : {given : Out (Unit {0})} {q : Refusal} → x ≡ refused q → given ≡ refused q → Fills x before after given
  not_filled e g = record { answer = g ∙ sym (ap done_in e); rounds = λ rs k. absurd (never (sym e ∙ k)) }

  -- the front was filled, and the rest is cleared
  pub filled : {left : List ℕ} (n : ℕ) → x ≡ ok left → length left ≡ n → n ≤ length before
      → after ≡ lent (length (left ++ drop n before)) (take n (left ++ drop n before)) → Fills x before after (ok tt)
  filled {left} n e l h a =
      let total : length (left ++ drop n before) ≡ length before = length-append left (drop n before) ∙ omega (arith, length-drop n before) in
      record {
        answer = sym (ap done_in e);
        rounds = λ rs k. a ∙ ap₂ lent total (take_at left (drop n before) n l ∙ ok_same (sym e ∙ k));
      }
