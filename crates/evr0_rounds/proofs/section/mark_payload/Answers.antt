-- Meets its contract: the tables are read, and then the rounds are made, by `PayloadLaws`.
use Prim.Native.Nat.{ℕ}
use mathlib.Core.Path.{◌≡◌, refl, ap, ◌∙◌}
use mathlib.Core.List.{List, []}
use native.Mathlib.Omega.{arith}
use lib.ListN.{length}
use Rattle.std.proofs.Common.{rules}
use Rattle.local_format.specs.Out.{refused}
use Rattle.local_format.specs.Maps.{refusal_out, answer_out}
use Rattle.lent_table.specs.Lent.{lent}
use Rattle.derivation.specs.Rule.{Rule}
use Rattle.evr0_section.specs.Head.{Room}
use Rattle.evr0_rules.specs.Maps.{book_rules}
use Rattle.evr0_tables.specs.LentTables.{Lent}
use Rattle.evr0_tables.specs.LentMaps.{tables_out}
use Rattle.evr0.proofs.CheckLaws.{fits, may_derive}
use Rattle.evr0_rounds.proofs.PayloadLaws.{not_read, not_made, rounds_made}
use Rattle.evr0_rounds.proofs.section.mark_payload.Goals as goal

pub returns-in_err-read-clause-passes : goal.returns-in_err-read-clause-passes
returns-in_err-read-clause-passes c =
    let g : answer_out (λ n. n) c.from_residual.result ≡ refused (refusal_out c.in_err-read.field-0.0) = search rules in
    λ end. rw g (not_read _ _ _ c.in_err-read.ensures.reads end)

pub fill_front-filled-requires : goal.fill_front-filled-requires
fill_front-filled-requires c =
    let among : List Rule = book_rules c.args.rules.now in
    let before : Lent = tables_out c.args.tables.now in
    let p : List ℕ = c.args.payload.now in
    let r = c.in_ok-read.ensures.reads in
    let l = c.in_ok-read.ensures.same.room in
    let f = fits among before p r in
    let e = c.layout_of.ensures in
    record {
      tables_there = rw e (may_derive among before p r refl);
      room = rw e (omega (arith, f.proofs, ap (λ (k : Room). k.proofs) l), omega (arith, f.depths, ap (λ (k : Room). k.depths) l));
    }

pub returns-in-Ok-clause-passes : goal.returns-in-Ok-clause-passes
returns-in-Ok-clause-passes c =
    let among : List Rule = book_rules c.args.rules.now in
    let before : Lent = tables_out c.args.tables.now in
    let p : List ℕ = c.args.payload.now in
    let r = c.in_ok-read.ensures.reads in
    let fills = rw c.layout_of.ensures at c.in-Ok.ensures.fills in
    λ end. rounds_made among before p r refl c.in_ok-read.ensures.same.room (fills among) refl
    c.fill_front-filled.ensures.kept end

pub returns-in-Err-clause-passes : goal.returns-in-Err-clause-passes
returns-in-Err-clause-passes c =
    let among : List Rule = book_rules c.args.rules.now in
    let before : Lent = tables_out c.args.tables.now in
    let p : List ℕ = c.args.payload.now in
    let r = c.in_ok-read.ensures.reads in
    let l = c.in_ok-read.ensures.same.room in
    let fills = rw c.layout_of.ensures at c.in-Err.ensures.fills in
    λ end. not_made among before p r refl (fills among)
    (record {
      propositions = c.clear.ensures ∙ ap (λ (k : Room). lent k.propositions []) l;
      proofs = c.clear-in-Err.ensures ∙ ap (λ (x : List ℕ). lent (length x) []) c.fill_front-filled.ensures.kept ∙ ap (λ (k : Room). lent k.proofs []) l;
      depths = c.clear-in-Err-2.ensures ∙ ap (λ (n : ℕ). lent n []) c.fill_front-filled.auto.rounds ∙ ap (λ (k : Room). lent k.depths []) l;
    }) end
