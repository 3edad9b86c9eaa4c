-- A start is at most the place after the last record.
use borrow.Author.Rules.{rules}
use Prim.Native.Nat.{ℕ, ◌<◌, ◌*◌, ◌≤◌}
use native.Mathlib.Omega.{arith}
use Rattle.columns_put.proofs.RecordsLaws.{evenly_length, evenly_at, evenly_within}
use Rattle.columns_put.proofs.records.Records.start.Goals as goal

pub overflow_mul-result : goal.overflow_mul-result
overflow_mul-result c =
    let size : ℕ = c.in-Even.size in
    let count : ℕ = c.in-Even.count in
    let below : c.args.i < count = omega (arith, (rw c.in-Even.is at c.requires).0, evenly_length count size c.in-Even.first) in
    let least : size * c.args.i ≤ size * count = evenly_within size c.args.i count below in
    let fits = (rw c.in-Even.is at c.requires).1 in
    search rules

pub overflow_add-result : goal.overflow_add-result
overflow_add-result c =
    let size : ℕ = c.in-Even.size in
    let count : ℕ = c.in-Even.count in
    let below : c.args.i < count = omega (arith, (rw c.in-Even.is at c.requires).0, evenly_length count size c.in-Even.first) in
    let least : size * c.args.i ≤ size * count = evenly_within size c.args.i count below in
    let fits = (rw c.in-Even.is at c.requires).1 in
    search rules

pub returns-in-Even : goal.returns-in-Even
returns-in-Even c =
    let count : ℕ = c.in-Even.count in
    let below : c.args.i < count = omega (arith, (rw c.in-Even.is at c.requires).0, evenly_length count c.in-Even.size c.in-Even.first) in
    rw c.in-Even.is (evenly_at count c.in-Even.size c.in-Even.first c.args.i below)
