-- Meets its contract: the tables are read, and then what the last pass answers, by `CheckLaws`.
use Prim.Native.Nat.{ℕ}
use mathlib.Core.Path.{◌≡◌, refl, ap, ◌∙◌}
use mathlib.Core.List.{List, []}
use native.Mathlib.Omega.{arith}
use lib.ListN.{length}
use Rattle.std.proofs.Common.{rules}
use Rattle.local_format.specs.Out.{refused}
use Rattle.local_format.specs.Maps.{refusal_out, answer_out}
use Rattle.lent_table.specs.Lent.{lent}
use Rattle.derivation.specs.Rule.{Rule}
use Rattle.evr0_section.specs.Head.{Room}
use Rattle.evr0_head.specs.Maps.{head_out}
use Rattle.evr0_rules.specs.Maps.{book_rules}
use Rattle.evr0_tables.specs.LentTables.{Lent}
use Rattle.evr0_tables.specs.LentMaps.{tables_out}
use Rattle.evr0.proofs.CheckLaws.{not_read, fits, may_derive, polarities, derived, not_derived}
use Rattle.evr0.proofs.section.section_in.Goals as goal

pub returns-in_err-read-clause-passes : goal.returns-in_err-read-clause-passes
returns-in_err-read-clause-passes c =
    let g : answer_out head_out c.from_residual.result ≡ refused (refusal_out c.in_err-read.field-0.0) = search rules in
    λ end. rw g (not_read _ _ _ c.in_err-read.ensures.reads end)

pub derive_front-derived-requires : goal.derive_front-derived-requires
derive_front-derived-requires c =
    let among : List Rule = book_rules c.args.rules.now in
    let before : Lent = tables_out c.args.tables.now in
    let p : List ℕ = c.args.payload.now in
    let r = c.in_ok-read.ensures.reads in
    let l = c.in_ok-read.ensures.same.room in
    let f = fits among before p r in
    let e = c.layout_of-layout.ensures in
    record {
      tables_there = rw e (may_derive among before p r refl);
      room = rw e (omega (arith, f.proofs, ap (λ (k : Room). k.proofs) l), omega (arith, f.depths, ap (λ (k : Room). k.depths) l));
      polarities_there = (among, rw e (polarities among before p r refl));
    }

pub returns-in-Ok-clause-passes : goal.returns-in-Ok-clause-passes
returns-in-Ok-clause-passes c =
    let among : List Rule = book_rules c.args.rules.now in
    let before : Lent = tables_out c.args.tables.now in
    let p : List ℕ = c.args.payload.now in
    let r = c.in_ok-read.ensures.reads in
    let derives = rw c.layout_of-layout.ensures at c.in-Ok.ensures.derives in
    λ end. derived among before p r refl c.in_ok-read.ensures.same.room (derives among (polarities among before p r refl)) refl
    c.derive_front-derived.ensures.kept end

pub returns-in-Err-clause-passes : goal.returns-in-Err-clause-passes
returns-in-Err-clause-passes c =
    let among : List Rule = book_rules c.args.rules.now in
    let before : Lent = tables_out c.args.tables.now in
    let p : List ℕ = c.args.payload.now in
    let r = c.in_ok-read.ensures.reads in
    let derives = rw c.layout_of-layout.ensures at c.in-Err.ensures.derives in
    λ end. not_derived among before p r refl c.in_ok-read.ensures.same.room (derives among (polarities among before p r refl))
    c.clear.ensures (c.clear-in-Err.ensures ∙ ap (λ (x : List ℕ). lent (length x) []) c.derive_front-derived.ensures.kept) end
