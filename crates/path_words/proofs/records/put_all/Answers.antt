-- Each record puts its words behind those of the records before it.
use Rattle.std.proofs.Common.{arith, rules, sym}
use Rattle.semcode_records.proofs.RecordsLaws.{next_refused, next_read}
use Rattle.path_words.proofs.PutLaws.{walk_first, walk_refused, walk_on, walk_end, walk_adds}
use Rattle.path_words.proofs.records.put_all.Goals as goal

pub loop-init : goal.loop-init
loop-init g c = walk_first _ _ _ _ _ _

pub returns-in_err-put-clause-next : goal.returns-in_err-put-clause-next
returns-in_err-put-clause-next g c =
    let l = c.loop in
    let e = walk_refused _ _ _ _ _ _ l.counter l.cursor l.to l.words l.invariant (omega arith) (next_refused _ (sym c.in_err-put.ensures.next)) in
    rw e (search rules)

pub overflow_add-to : goal.overflow_add-to
overflow_add-to g c = let f = c.in_ok-put.ensures.puts.few in omega (arith, c.loop.invariant.few)

pub loop-preserved : goal.loop-preserved
loop-preserved g c =
    let l = c.loop in
    walk_on _ _ _ _ _ _ l.counter l.cursor l.to l.words l.invariant (omega arith) (next_read _ (sym c.in_ok-put.ensures.next)).1 c.min-front.result
    c.min-front.ensures _ _ (search rules) c.in_ok-put.ensures.puts

pub returns-clause-next : goal.returns-clause-next
returns-clause-next g c =
    let l = c.loop in
    walk_end _ _ _ _ _ _ l.counter l.cursor l.to l.words l.invariant (omega arith)

pub returns-clause-adds : goal.returns-clause-adds
returns-clause-adds g c t h =
    let l = c.loop in
    walk_adds _ _ _ _ _ _ l.counter l.cursor l.to l.words l.invariant (omega arith) t h

pub returns-clause-few : goal.returns-clause-few
returns-clause-few g c = let f = c.loop.invariant.few in omega (arith, f)
