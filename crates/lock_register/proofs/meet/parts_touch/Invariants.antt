-- Meets its contract. The invariant: all words from k on are the same in the bits that count.
use Prim.Native.Nat.{min}
use lib.ListN.{get_or}
use Rattle.lock_register.proofs.MeetLaws.{Agreeing}
use Rattle.lock_register.proofs.meet.parts_touch.Given as goal

abbrev pub invariant-loop-k : goal.invariant-loop-k
invariant-loop-k l = Agreeing l.lock l.key l.k (min (min (get_or l.lock 3 0) 16) (min (get_or l.key 3 0) 16))
