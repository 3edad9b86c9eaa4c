-- The invariant: what is promised of all holds of those before the next.
use Rattle.std.proofs.Common.{◌≡◌, ◌<◌, ◌≤◌, ℕ, true, get_or}
use Rattle.semcode_decode.proofs.signature.all_families.Given as goal

abbrev pub invariant-loop-family : goal.invariant-loop-family
invariant-loop-family l =
    l.all ≡ true → (i : ℕ) → i < l.family-index → (1 ≤ get_or l.families i 0) × (get_or l.families i 0 ≤ 15)
