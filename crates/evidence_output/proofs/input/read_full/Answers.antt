-- Meets its contract: each read adds to what was consumed.
use Rattle.std.proofs.Common.{rules, ℕ, List, ◌++◌, length, take, ◌+◌, ◌-◌, ◌≤◌, ◌≡◌, arith, length-take-le, ap}
use borrow.Rule.Slice.PartMut.{put_mid, post_of}
use Rattle.std.proofs.lemmas.List.{drop_at, take-append-le}
use Rattle.std.proofs.Math.Seq.{take-add}
use Rattle.std.proofs.lemmas.Slice.{take-put_mid_below}
use Rattle.std.proofs.KnownBytes.{Consumes-trans}
use Rattle.evidence_output.proofs.input.read_full.Goals as goal

-- the front of a buffer after a read of n bytes into its rest
read_more : (at k n : ℕ) (xs ys : List ℕ) → at ≤ length xs → n ≤ length ys → take (at + n) (put_mid at k xs ys) ≡ take at xs ++ take n ys
read_more at k n xs ys h l =
    let long = length-take-le at xs h in
    rw (take-add at n (put_mid at k xs ys), take-put_mid_below at k xs ys at (omega arith) h, drop_at (take at xs) (ys ++ post_of at k xs) at long)
    (ap (λ l. take at xs ++ l) (take-append-le n ys _ l))

pub loop-len-preserved : goal.loop-len-preserved
loop-len-preserved g c =
    let at = c.loop-len.len in
    let old = c.loop-len.buf in
    let more = read_more at (length old - at) c.in_ok-more.more old c.read.new.buf (omega arith) c.in_ok-more.ensures.bound.0 in
    (search rules, search rules, rw more (Consumes-trans _ _ _ _ _ c.loop-len.invariant.2 c.in_ok-more.ensures.bytes.0))
