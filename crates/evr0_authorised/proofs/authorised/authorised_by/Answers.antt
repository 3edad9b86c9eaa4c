-- Meets its contract. The invariant: the proofs before have nothing to say.
use mathlib.Core.Path.{◌≡◌, refl, sym, ◌∙◌}
use mathlib.Core.Bool.{true, false}
use mathlib.Core.List.{[], ◌∷◌}
use native.Mathlib.Omega.{arith}
use lib.ListN.{length, get_or, length-append}
use Rattle.std.proofs.Common.{rules}
use Rattle.std.proofs.lemmas.Slice.Zip.{zip_turn, zip_end}
use Rattle.evr0_pass.specs.View.{proof_view}
use Rattle.evr0_authorised.specs.Maps.{own}
use Rattle.evr0_authorised.proofs.OperatesLaws.{none_left_lem, found_here, goes_on}
use Rattle.evr0_authorised.proofs.authorised.authorised_by.Goals as goal

pub loop-start-init : goal.loop-start-init
loop-start-init c rules =
    refl

pub authorises-requires : goal.authorises-requires
authorises-requires c =
    let a = c.args in
    let xs = c.loop-start.yielded in
    let first : c.into_iter-start-iterator.result.a.rest.now ≡ a.tables.starts.now = search rules in
    let second : c.into_iter-start-iterator.result.b.rest.now ≡ a.marks.now = search rules in
    let turn = zip_turn a.tables.starts.now a.marks.now xs c.into_iter-start-iterator.result c.loop-start.start-iterator c.next.new.self
    c.next.result first second c.loop-start.yielded_by (c.in-Some.start, c.in-Some.mark) c.in-Some.is c.next.ensures.steps
    in
    rw (turn.2 0) (a.tables.there.proofs (length xs) turn.0).inside

pub returns-then-authorises : goal.returns-then-authorises
returns-then-authorises c more =
    let a = c.args in
    let xs = c.loop-start.yielded in
    let first : c.into_iter-start-iterator.result.a.rest.now ≡ a.tables.starts.now = search rules in
    let second : c.into_iter-start-iterator.result.b.rest.now ≡ a.marks.now = search rules in
    let turn = zip_turn a.tables.starts.now a.marks.now xs c.into_iter-start-iterator.result c.loop-start.start-iterator c.next.new.self
    c.next.result first second c.loop-start.yielded_by (c.in-Some.start, c.in-Some.mark) c.in-Some.is c.next.ensures.steps
    in
    let view = proof_view more a.tables.payload.now in
    let is : own (view (get_or a.tables.starts.now (length xs) 0)) (get_or a.marks.now (length xs) 0) a.proposition.0 ≡ true =
    rw (← turn.2 0, ← turn.3 0) (sym (c.authorises.ensures more) ∙ c.if-authorises.true) in
    found_here view a.tables.starts.now a.marks.now a.proposition.0 (length xs) (c.loop-start.invariant more) turn.0 c.requires is

pub loop-start-preserved : goal.loop-start-preserved
loop-start-preserved c more =
    let a = c.args in
    let xs = c.loop-start.yielded in
    let first : c.into_iter-start-iterator.result.a.rest.now ≡ a.tables.starts.now = search rules in
    let second : c.into_iter-start-iterator.result.b.rest.now ≡ a.marks.now = search rules in
    let turn = zip_turn a.tables.starts.now a.marks.now xs c.into_iter-start-iterator.result c.loop-start.start-iterator c.next.new.self
    c.next.result first second c.loop-start.yielded_by (c.in-Some.start, c.in-Some.mark) c.in-Some.is c.next.ensures.steps
    in
    let view = proof_view more a.tables.payload.now in
    let is : own (view (get_or a.tables.starts.now (length xs) 0)) (get_or a.marks.now (length xs) 0) a.proposition.0 ≡ false =
    rw (← turn.2 0, ← turn.3 0) (sym (c.authorises.ensures more) ∙ c.if-authorises.false) in
    rw (length-append xs ((c.in-Some.start, c.in-Some.mark) ∷ []))
    (goes_on view a.tables.starts.now a.marks.now a.proposition.0 (length xs) (c.loop-start.invariant more) turn.0 c.requires is)

pub returns : goal.returns
returns c more =
    let a = c.args in
    let xs = c.loop-start.yielded in
    let first : c.into_iter-start-iterator.result.a.rest.now ≡ a.tables.starts.now = search rules in
    let second : c.into_iter-start-iterator.result.b.rest.now ≡ a.marks.now = search rules in
    let n = zip_end a.tables.starts.now a.marks.now xs c.into_iter-start-iterator.result c.loop-start.start-iterator c.next.new.self
    c.next.result first second c.loop-start.yielded_by c.in-None.is c.next.ensures.steps
    in
    none_left_lem (proof_view more a.tables.payload.now) a.tables.starts.now a.marks.now a.proposition.0 (length xs) (c.loop-start.invariant more)
    (omega (arith, n, c.requires))
