-- Bytes are written whole where the list is long enough.
use Prim.Native.Nat.{ℕ, ◌+◌, ◌≤◌}
use mathlib.Core.Path.{◌≡◌}
use mathlib.Core.List.{List}
use native.Mathlib.Omega.{arith}
use lib.ListN.{length, take}
use lib.Seq.{sets-eq, take-append_seam}
use Rattle.evidence_output.specs.Written.{Written}

pub written_whole : {s t : List ℕ} {n : ℕ} {xs : List ℕ} → Written s 0 xs t n → length xs ≤ length s → take n t ≡ xs
written_whole {s} {t} {n} {xs} w h =
    let e : n ≡ length xs = omega (arith, w.place) in
    let l : 0 + length xs ≤ length s = omega arith in
    rw (e, w.holds, sets-eq xs s 0 l) (take-append_seam xs _)
