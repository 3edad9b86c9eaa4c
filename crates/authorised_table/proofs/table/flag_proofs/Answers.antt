-- The invariant: what is left of the pass makes the whole.
use mathlib.Core.Path.{◌≡◌, refl}
use mathlib.Core.List.{[], ◌∷◌}
use native.Mathlib.Omega.{arith}
use lib.ListN.{length, get_or, length-append}
use Rattle.std.proofs.Common.{rules}
use Rattle.std.proofs.lemmas.Slice.Zip.{zip_turn, zip_end}
use Rattle.evr0_pass.specs.View.{proof_view}
use Rattle.authorised_table.specs.Steps.{flagged}
use Rattle.authorised_table.proofs.FlagLaws.{none_left_lem, goes_on}
use Rattle.authorised_table.proofs.table.flag_proofs.Goals as goal

pub loop-start-init : goal.loop-start-init
loop-start-init c more = refl

pub flag-requires : goal.flag-requires
flag-requires c =
    let a = c.args in
    let xs = c.loop-start.yielded in
    let first : c.into_iter-start-iterator.result.a.rest.now ≡ a.tables.starts.now = search rules in
    let second : c.into_iter-start-iterator.result.b.rest.now ≡ a.marks.now = search rules in
    let turn = zip_turn a.tables.starts.now a.marks.now xs c.into_iter-start-iterator.result c.loop-start.start-iterator c.next.new.self
    c.next.result first second c.loop-start.yielded_by (c.in-Some.start, c.in-Some.mark) c.in-Some.is c.next.ensures.steps
    in
    rw (turn.2 0) (a.tables.there.proofs (length xs) turn.0).inside

pub loop-start-preserved : goal.loop-start-preserved
loop-start-preserved c more =
    let a = c.args in
    let xs = c.loop-start.yielded in
    let first : c.into_iter-start-iterator.result.a.rest.now ≡ a.tables.starts.now = search rules in
    let second : c.into_iter-start-iterator.result.b.rest.now ≡ a.marks.now = search rules in
    let turn = zip_turn a.tables.starts.now a.marks.now xs c.into_iter-start-iterator.result c.loop-start.start-iterator c.next.new.self
    c.next.result first second c.loop-start.yielded_by (c.in-Some.start, c.in-Some.mark) c.in-Some.is c.next.ensures.steps
    in
    let view = proof_view more a.tables.payload.now in
    let is : c.flag.new.authorised ≡ flagged (view (get_or a.tables.starts.now (length xs) 0)) (get_or a.marks.now (length xs) 0) c.loop-start.authorised =
    rw (← turn.2 0, ← turn.3 0) (c.flag.ensures more) in
    rw (length-append xs ((c.in-Some.start, c.in-Some.mark) ∷ []))
    (goes_on view a.tables.starts.now a.marks.now a.authorised.now (length xs) c.loop-start.authorised (c.loop-start.invariant more) turn.0 c.requires is)

pub returns : goal.returns
returns c more =
    let a = c.args in
    let xs = c.loop-start.yielded in
    let first : c.into_iter-start-iterator.result.a.rest.now ≡ a.tables.starts.now = search rules in
    let second : c.into_iter-start-iterator.result.b.rest.now ≡ a.marks.now = search rules in
    let n = zip_end a.tables.starts.now a.marks.now xs c.into_iter-start-iterator.result c.loop-start.start-iterator c.next.new.self
    c.next.result first second c.loop-start.yielded_by c.in-None.is c.next.ensures.steps
    in
    none_left_lem (proof_view more a.tables.payload.now) a.tables.starts.now a.marks.now a.authorised.now (length xs) c.loop-start.authorised
    (c.loop-start.invariant more) (omega (arith, n, c.requires))
