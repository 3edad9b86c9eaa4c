-- Meets its contract. The invariant: the lines of the starts and depths before are written.
use mathlib.Core.Path.{◌≡◌}
use mathlib.Core.List.{[], ◌∷◌}
use native.Mathlib.Omega.{arith}
use lib.ListN.{length, length-append}
use Rattle.std.proofs.Common.{rules}
use Rattle.std.proofs.lemmas.Slice.Zip.{zip_turn, zip_end}
use Rattle.byte_output.proofs.WrittenLaws.{writes_none, writes_append}
use Rattle.evidence_output.specs.Listed.{lines_at}
use Rattle.evidence_output.proofs.ListedLaws.{one_more_line, all_lines}
use Rattle.evidence_output.proofs.listed.put_proofs.Goals as goal

pub loop-start-init : goal.loop-start-init
unfolding lines_at
loop-start-init c = writes_none _ (omega arith) (omega arith)

pub loop-start-preserved : goal.loop-start-preserved
loop-start-preserved c =
    let a = c.args in
    let xs = c.loop-start.yielded in
    let first : c.into_iter-start-iterator.result.a.rest.now ≡ a.starts.now = search rules in
    let second : c.into_iter-start-iterator.result.b.rest.now ≡ a.depths.now = search rules in
    let turn = zip_turn a.starts.now a.depths.now xs c.into_iter-start-iterator.result c.loop-start.start-iterator c.next.new.self
    c.next.result first second c.loop-start.yielded_by (c.in-Some.start, c.in-Some.depth) c.in-Some.is c.next.ensures.steps
    in
    rw (
      length-append xs ((c.in-Some.start, c.in-Some.depth) ∷ []),
      one_more_line a.payload.now a.starts.now a.depths.now (length xs) turn.0 turn.1,
      ← turn.2 0,
      ← turn.3 0,
    )
    (writes_append c.loop-start.invariant c.put_record.ensures)

pub returns : goal.returns
returns c =
    let a = c.args in
    let first : c.into_iter-start-iterator.result.a.rest.now ≡ a.starts.now = search rules in
    let second : c.into_iter-start-iterator.result.b.rest.now ≡ a.depths.now = search rules in
    let n = zip_end a.starts.now a.depths.now c.loop-start.yielded c.into_iter-start-iterator.result c.loop-start.start-iterator
    c.next.new.self c.next.result first second c.loop-start.yielded_by c.in-None.is c.next.ensures.steps
    in
    rw (all_lines a.payload.now (length c.loop-start.yielded) a.starts.now a.depths.now (omega (arith, n))) at c.loop-start.invariant
