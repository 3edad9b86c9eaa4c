-- The proofs passed are after the round, the others before it.
use borrow.Author.Rules.{rules}
use mathlib.Core.Path.{refl}
use native.Mathlib.Omega.{arith}
use lib.ListN.{length-set}
use Rattle.rounds.proofs.Loops.{round_starts, round_turns, round_ends}
use Rattle.evr0_rounds.proofs.mark.mark_round.Goals as goal

pub loop-i-init : goal.loop-i-init
loop-i-init c =
    let a = c.args in
    let due = c.requires in
    (refl, λ rules. round_starts _ a.round a.rounds.now a.first (omega (arith, due.start, due.entries)) due.marked)

pub loop-i-preserved : goal.loop-i-preserved
loop-i-preserved c =
    let due = c.requires in (
      simp length-set c.loop-i.invariant.0,
      λ rules. round_turns _ c.args.round c.args.rounds.now c.loop-i.i c.turn_of-turn.result c.loop-i.rounds due.earlier
          (omega (arith, due.entries, c.loop-i-test.true)) (c.loop-i.invariant.1 rules) (c.turn_of-turn.ensures rules),
    )

pub returns : goal.returns
returns c rules =
    round_ends _ c.args.round c.args.rounds.now c.loop-i.i _ c.loop-i.rounds c.requires.entries (omega (arith, c.requires.start)) (c.loop-i.invariant.1 rules)
