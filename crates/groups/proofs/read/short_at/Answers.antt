-- The number is the last byte, with each byte before it that goes on; each is right, since 8 bits and more are left.
use Prim.Native.Nat.{ℕ, ◌+◌, ◌-◌, ◌*◌, ◌≤◌, ◌<◌}
use mathlib.Core.Path.{◌≡◌, refl, subst}
use mathlib.Core.Logic.{⊎_elim}
use native.Mathlib.Omega.{arith}
use mathlib.Core.List.{List}
use lib.ListN.{get_or}
use lib.Pow.{pow_mono}
use Rattle.derivation.proofs.Tests.{order}
use Rattle.groups.specs.Maps.{width_of}
use Rattle.groups.specs.declared.read.Width.{Width}
use Rattle.groups.proofs.ReadLaws as law
use Rattle.groups.proofs.read.short_at.Goals as goal

abbrev bits : Width → ℕ
bits w = 8 * width_of w

least-bits : (w : Width) → 16 ≤ bits w
least-bits w = omega (arith, law.width_least w)

-- a byte where 8 bits and more are left
abbrev Here : List ℕ → ℕ → ℕ → ℕ → Type 0
Here s least left i = law.Right s least left i (get_or s i 0)

pub returns-then-first-lt128 : goal.returns-then-first-lt128
returns-then-first-lt128 c =
    let at = c.args.at in
    λ w e. let first : Here c.args.bytes.now 0 (bits w) at =
    law.byte_right (λ i. (c.type_inv.bytes i).fits) (omega (arith, least-bits w)) (omega arith) (omega arith) in
    law.reads_last first c.if-first-lt128.true (at + 1) refl

pub overflow_add-result : goal.overflow_add-result
overflow_add-result c =
    omega (arith, c.type_inv.bytes c.args.at)

pub returns-then-second-gt0 : goal.returns-then-second-gt0
returns-then-second-gt0 c =
    let at = c.args.at in
    λ w e. let first : Here c.args.bytes.now 0 (bits w) at =
    law.byte_right (λ i. (c.type_inv.bytes i).fits) (omega (arith, least-bits w)) (omega arith) (omega arith) in
    let second : Here c.args.bytes.now 1 (bits w - 7) (at + 1) =
    law.byte_right (λ i. (c.type_inv.bytes i).fits) (omega (arith, least-bits w)) (omega arith) (omega arith) in
    law.reads_more first c.if-first-lt128.false (law.reads_last second c.if-second-lt128.true (at + 2) (omega arith))

pub overflow_add-result-then-most-gt65535 : goal.overflow_add-result-then-most-gt65535
overflow_add-result-then-most-gt65535 c =
    omega (arith, c.type_inv.bytes (c.args.at + 1))

pub overflow_mul-result-then-most-gt65535-2 : goal.overflow_mul-result-then-most-gt65535-2
overflow_mul-result-then-most-gt65535-2 c =
    omega (arith, c.type_inv.bytes (c.args.at + 1))

pub overflow_add-result-then-most-gt65535-2 : goal.overflow_add-result-then-most-gt65535-2
overflow_add-result-then-most-gt65535-2 c =
    omega (arith, c.type_inv.bytes c.args.at, c.type_inv.bytes (c.args.at + 1))

pub returns-then-most-gt65535 : goal.returns-then-most-gt65535
returns-then-most-gt65535 c =
    let at = c.args.at in
    λ w e. let first : Here c.args.bytes.now 0 (bits w) at =
    law.byte_right (λ i. (c.type_inv.bytes i).fits) (omega (arith, least-bits w)) (omega arith) (omega arith) in
    let second : Here c.args.bytes.now 1 (bits w - 7) (at + 1) =
    law.byte_right (λ i. (c.type_inv.bytes i).fits) (omega (arith, least-bits w)) (omega arith) (omega arith) in
    let more : 16 < bits w =
    ⊎_elim (λ h. absurd (omega (arith, e, c.if-most-gt65535.true, pow_mono {i = bits w} {j = 16} h))) (λ h. h) (order (bits w) 16) in
    let third : Here c.args.bytes.now 1 (bits w - 7 - 7) (at + 2) =
    law.byte_right (λ i. (c.type_inv.bytes i).fits) (omega (arith, more)) (omega arith) (omega arith) in
    let e : at + 2 ≡ at + 1 + 1 = omega arith in
    let last = subst (λ (i : ℕ). law.Reads c.args.bytes.now 1 (bits w - 7 - 7) i (law.value_to c.args.bytes.now (get_or c.args.bytes.now (at + 2) 0) (at + 3)))
    e (law.reads_last third c.if-third-lt128.true (at + 3) (omega arith)) in
    law.reads_more first c.if-first-lt128.false (law.reads_more second c.if-second-lt128.false last)
