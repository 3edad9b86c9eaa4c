-- The table is what is marked after the rounds done, and each proof before `first` is marked in it.
use mathlib.Core.Path.{◌∙◌}
use mathlib.Core.List.{[]}
use native.Mathlib.Omega.{arith}
use Rattle.std.proofs.Common.{rules}
use Rattle.evr0_rounds.proofs.TablesLaws.{total_is}
use Rattle.evr0_rounds.proofs.MarkLaws.{cleared, found_on, stands_again, due_of, none_found, ended}
use Rattle.evr0_rounds.proofs.mark.mark_rounds.Goals as goal

pub loop-done-init : goal.loop-done-init
loop-done-init c =
    (c.clear.auto.table ∙ c.requires, λ rules. cleared _ _ (total_is c.args.tables rules) _ _ c.clear.ensures c.requires)

pub first_unmarked-requires : goal.first_unmarked-requires
first_unmarked-requires c =
    omega (arith, c.loop-done.invariant.0, (c.loop-done.invariant.1 []).start)

pub first_unmarked-requires-2 : goal.first_unmarked-requires-2
first_unmarked-requires-2 c =
    omega (arith, c.loop-done.invariant.0, (c.loop-done.invariant.1 []).start)

pub returns-in_default : goal.returns-in_default
returns-in_default c rs =
    let l = c.loop-done in
    none_found _ _ (total_is c.args.tables rs) l.done l.first l.rounds (l.invariant.1 rs) l.invariant.0 c.first_unmarked.ensures.first (search rules)

pub mark_round-requires : goal.mark_round-requires
mark_round-requires c =
    let l = c.loop-done in
    let found = found_on _ _ (total_is c.args.tables []) l.done l.first l.rounds (l.invariant.1 []) l.invariant.0
    (rw c.in-Some.is at c.first_unmarked.ensures.first) in
    due_of _ _ (total_is c.args.tables []) l.done _ l.rounds found l.invariant.0

pub loop-done-preserved : goal.loop-done-preserved
loop-done-preserved c =
    let l = c.loop-done in
    let entries = c.mark_round.auto.rounds ∙ l.invariant.0 in (
      entries,
      λ rs.
          let found = found_on _ _ (total_is c.args.tables rs) l.done l.first l.rounds (l.invariant.1 rs) l.invariant.0
          (rw c.in-Some.is at c.first_unmarked.ensures.first) in
          stands_again _ _ (total_is c.args.tables rs) l.done _ l.rounds found l.invariant.0 _ c.loop-done-test.true (c.mark_round.ensures rs) entries,
    )

pub returns : goal.returns
returns c rs =
    let l = c.loop-done in
    rw c.check.ensures
    (ended _ _ (total_is c.args.tables rs) l.done l.first l.rounds (l.invariant.1 rs) l.invariant.0 (omega arith) _ c.first_unmarked-2.ensures.first
    c.first_unmarked-2.ensures.there _ c.is_none.ensures)
