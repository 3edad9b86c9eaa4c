-- The invariant: what the name finds among the rules from here on is what it finds among all.
use mathlib.Core.Path.{sym, ◌∙◌}
use native.Mathlib.Omega.{arith}
use Rattle.evr0_rules.proofs.NameLaws.{known_at, found_here, not_here, none_left_lem}
use Rattle.evr0_rules.proofs.placed.RulesAt.rule_named.Goals as goal

pub returns-then-has_name : goal.returns-then-has_name
returns-then-has_name c =
    let e = sym c.has_name.ensures ∙ c.if-has_name.true in
    known_at _ _ _ _ e c.numbers.ensures ∙ found_here _ _ _ c.loop-at.at-index (omega arith) e ∙ c.loop-at.invariant

pub loop-at-preserved : goal.loop-at-preserved
loop-at-preserved c =
    not_here _ _ _ c.loop-at.at-index (omega arith) (sym c.has_name.ensures ∙ c.if-has_name.false) ∙ c.loop-at.invariant

pub returns : goal.returns
returns c =
    none_left_lem _ _ _ c.loop-at.at-index (omega arith) ∙ c.loop-at.invariant
