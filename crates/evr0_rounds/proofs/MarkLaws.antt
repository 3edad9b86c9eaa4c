-- The rounds: what stands after each, and after the last.
use Prim.Native.Nat.{ℕ, suc, ◌+◌, ◌-◌, ◌≤◌, ◌<◌}
use mathlib.Core.Path.{◌≡◌, refl, ap, ◌∙◌}
use mathlib.Core.Bool.{Bool, true, false, not}
use Rattle.std.specs.Prelude.{Option, Some, None, is_some, unwrap_or}
use mathlib.Core.Logic.{⊎_elim}
use mathlib.Core.List.{List, []}
use native.Mathlib.Omega.{arith}
use lib.ListN.{length, get_or, replicate}
use Rattle.local_format.specs.Out.{ok, refuse, check}
use Rattle.lent_table.specs.Lent.{lent}
use Rattle.derivation.specs.Section.{Section, proof_total}
use Rattle.derivation.proofs.Tests.{order}
use Rattle.rounds.specs.Rounds.{turns, after_rounds}
use Rattle.rounds.proofs.InPlace.{after_upto}
use Rattle.rounds.proofs.Loops.{stays_marked}
use Rattle.rounds.proofs.Loops.{no_round, next_round, all_marked, one_unmarked}
use Rattle.evr0_rounds.specs.Steps.{FirstUnmarked, RoundDue, Done}

-- after `done` rounds, with a proof before which each is marked
pub record Standing (s : Section) (total done first : ℕ) (rounds : List ℕ) : Type 0 where
  pub upto : done ≤ 256
  pub start : first ≤ total
  pub marked : (j : ℕ) → j < first → get_or rounds j 0 ≡ 0 → ⊥
  pub are : rounds ≡ after_rounds s done

module _ (s : Section) (total : ℕ) (is : proof_total s ≡ total) where
  pub cleared : (rounds : List ℕ) (n : ℕ) → rounds ≡ lent n [] → n ≡ total → Standing s total 0 0 rounds
  cleared rounds n e k =
      let m : n - 0 ≡ total = omega arith in
      let zeros : rounds ≡ replicate total 0 = e ∙ ap (λ (n : ℕ). replicate n 0) m in
      record {
        upto = omega arith;
        start = omega arith;
        marked = λ j l. absurd (omega arith);
        are = zeros ∙ no_round s total is;
      }

  module _ (done first : ℕ) (rounds : List ℕ) (k : Standing s total done first rounds) (entries : length rounds ≡ total) where
    -- nearer to the first unmarked proof
    pub found_on : {next : ℕ} → FirstUnmarked rounds first next → Standing s total done next rounds
    found_on u =
        record {
          upto = k.upto;
          start = omega (arith, u.upto, entries);
          marked = λ j h. ⊎_elim (λ g. k.marked j (omega arith)) (λ g. u.marked j (omega arith) h) (order (suc j) first);
          are = k.are;
        }

    pub due_of : RoundDue total (done + 1) first rounds
    due_of =
        record {
          entries = entries;
          start = k.start;
          marked = k.marked;
          earlier = λ j. rw k.are (omega (arith, after_upto s done j));
        }

    pub stands_again : (next : List ℕ) → done < 256 → next ≡ turns s (done + 1) rounds total 0 → length next ≡ total
        → Standing s total (done + 1) first next
    stands_again next l e n =
        record {
          upto = omega arith;
          start = k.start;
          marked = λ j g. stays_marked s (done + 1) rounds total j next e (omega (arith, k.start)) (k.marked j g);
          are = next_round s done total rounds next is k.are e;
        }

    -- none is left
    pub finished : total ≤ first → Done s rounds (ok tt)
    finished h =
        let a = all_marked s done rounds k.upto k.are (λ j l. k.marked j (omega arith)) in
        record { answer = rw a.1; rounds = a.0 }

    -- 256 are done, and this one is left
    pub one_left : 256 ≤ done → first < total → get_or rounds first 0 ≡ 0 → Done s rounds (refuse 27 0)
    one_left l h z =
        let all : done ≡ 256 = omega (arith, k.upto) in
        let are : rounds ≡ after_rounds s 256 = k.are ∙ ap (after_rounds s) all in
        record { answer = rw (one_unmarked s rounds first are (omega arith) z); rounds = are }

  module _ (done first : ℕ) (rounds : List ℕ) (k : Standing s total done first rounds) (entries : length rounds ≡ total) where
    pub none_found : {found : ℕ} → FirstUnmarked rounds first found → found ≡ length rounds → Done s rounds (ok tt)
    none_found {found} u e = finished done found rounds (found_on done first rounds k entries u) entries (omega arith)

    -- 256 are done
    pub ended : 256 ≤ done → (found : Option ℕ) → FirstUnmarked rounds first (unwrap_or found (length rounds))
        → ((i : ℕ) → found ≡ Some i → i < length rounds) → (b : Bool) → is_some found ≡ not b → Done s rounds (check b 27 0)
    ended l None u t true e = none_found u refl
    ended l None u t false e = absurd (let z : ◌≡◌ {A = ℕ} 0 1 = cc in omega arith)
    ended l (Some i) u t true e = absurd (let z : ◌≡◌ {A = ℕ} 0 1 = cc in omega arith)
    ended l (Some i) u t false e =
        one_left done i rounds (found_on done first rounds k entries u) entries l (omega (arith, t i refl, entries)) (u.unmarked (t i refl))
