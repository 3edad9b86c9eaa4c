-- Each byte's steps are shifted to the next state.
use Rattle.std.proofs.Common.{arith}
use Rattle.std.proofs.lemmas.Nat.{and_mask}
use Rattle.utf8_automaton.proofs.StepsLaws.{walk_first, walk_on, walk_end}
use Rattle.utf8_automaton.proofs.is_utf8.Goals as goal

pub loop-byte-init : goal.loop-byte-init
loop-byte-init c = walk_first c.args.bytes.now

pub loop-byte-preserved : goal.loop-byte-preserved
loop-byte-preserved c =
    let l = c.loop-byte in
    walk_on c.args.bytes.now l.byte-index l.state l.invariant c.loop-byte-test.true (omega (arith, c.type_inv.bytes l.byte-index)) _ (and_mask l.state 6)

pub returns : goal.returns
returns c =
    let l = c.loop-byte in
    rw (and_mask l.state 6) (walk_end c.args.bytes.now l.byte-index l.state l.invariant c.loop-byte-test.false)
