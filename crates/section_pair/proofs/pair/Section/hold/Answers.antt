-- Meets its contract: 74, the list, 61, by `PairLaws`.
use borrow.Author.Rules.{rules}
use mathlib.Core.Path.{◌≡◌, ap₂, ◌∙◌}
use Rattle.std.proofs.Math.Logic.{∥∥₁_elim}
use Rattle.std.proofs.Props.{props}
use Rattle.local_format.specs.Out.{refused}
use Rattle.local_format.specs.Maps.{answer_out, refusal_out}
use Rattle.local_format.specs.Tag.{equal}
use Rattle.section_pair.specs.Maps.{totals_out}
use Rattle.section_pair.proofs.PairLaws.{seen, differ, short, counts_add, fits}
use Rattle.section_pair.proofs.pair.Section.hold.Goals as goal

pub returns-in_err-check : goal.returns-in_err-check
returns-in_err-check c a b =
    let e : answer_out totals_out c.from_residual.result ≡ refused (refusal_out c.in_err-check.field-0.0) = search rules in
    rw e
    (differ a b (c.same-matches.ensures ∙ ap₂ equal c.source_set.ensures c.source_set-2.ensures) c.in_err-check.ensures)

pub returns-in_err-check-2 : goal.returns-in_err-check-2
returns-in_err-check-2 c a b =
    let e : answer_out totals_out c.from_residual-in_err-check-2.result ≡ refused (refusal_out c.in_err-check-2.field-0.0) = search rules in
    rw e
    (short a b (c.same-matches.ensures ∙ ap₂ equal c.source_set.ensures c.source_set-2.ensures) c.in_ok-check.ensures
    (c.list-listing.ensures _ _ (seen a c.side.ensures.payload c.side.ensures.starts c.side.ensures.flags)
    (seen b c.side-2.ensures.payload c.side-2.ensures.starts c.side-2.ensures.flags))
    c.list-listing.auto.verdicts c.in_err-check-2.ensures)

pub tally-requires : goal.tally-requires
tally-requires c =
    ∥∥₁_elim c.args.self.told (Prim.hlevel props) (λ a.
    ∥∥₁_elim c.args.second.told (Prim.hlevel props) (λ b.
    counts_add a b (c.same-matches.ensures ∙ ap₂ equal c.source_set.ensures c.source_set-2.ensures) c.in_ok-check.ensures
    (c.list-listing.ensures _ _ (seen a c.side.ensures.payload c.side.ensures.starts c.side.ensures.flags)
    (seen b c.side-2.ensures.payload c.side-2.ensures.starts c.side-2.ensures.flags))))

pub returns : goal.returns
returns c a b =
    fits a b (c.same-matches.ensures ∙ ap₂ equal c.source_set.ensures c.source_set-2.ensures) c.in_ok-check.ensures
    (c.list-listing.ensures _ _ (seen a c.side.ensures.payload c.side.ensures.starts c.side.ensures.flags)
    (seen b c.side-2.ensures.payload c.side-2.ensures.starts c.side-2.ensures.flags))
    c.list-listing.auto.verdicts c.in_ok-check-2.ensures c.clear_from.ensures c.tally.ensures
