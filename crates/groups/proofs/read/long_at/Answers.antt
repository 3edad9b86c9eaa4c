-- The invariant: the number is what the groups so far make, and the number from here on, which is at most the room.
use Prim.Native.Nat.{ℕ, ◌*◌}
use mathlib.Core.Path.{◌≡◌, refl, ap, ◌∙◌}
use native.Mathlib.Omega.{arith}
use Rattle.local_format.specs.Refusal.{Refusal}
use Rattle.local_format.specs.Out.{Out, refused}
use Rattle.groups.specs.Groups.{Read}
use Rattle.groups.specs.Maps.{width_of}
use Rattle.groups.proofs.ReadLaws as law
use Rattle.groups.proofs.read.long_at.Goals as goal

refuses : {q r : Refusal} {y : Out (Read ℕ)} → q ≡ r → refused r ≡ y → refused q ≡ y
refuses e f = ap (λ (r : Refusal). refused r) e ∙ f

pub loop-i-init : goal.loop-i-init
loop-i-init c =
    law.reading_first _ (8 * width_of c.args.width) _ _ c.most-room.ensures (omega (arith, law.width_most c.args.width))

pub returns-then-byte-least : goal.returns-then-byte-least
returns-then-byte-least c =
    let reading = c.loop-i.invariant in
    refuses c.refuse.ensures
    (law.reading_outside reading c.loop-i-test.true refl (λ l u. omega (arith, l, c.if-byte-least.true)))

pub returns-then-room-byte : goal.returns-then-room-byte
returns-then-room-byte c =
    let reading = c.loop-i.invariant in
    refuses c.refuse-then-room-byte.ensures
    (law.reading_outside reading c.loop-i-test.true refl (λ l u. omega (arith, u, c.if-room-byte.true)))

pub overflow_mul-result : goal.overflow_mul-result
overflow_mul-result c =
    let reading = c.loop-i.invariant in
    let right-now = law.reading_right reading c.loop-i-test.true refl ((c.type_inv.bytes c.loop-i.i).fits) c.if-byte-least.false c.if-room-byte.false in
    record { fits = law.last_product reading right-now }

pub overflow_add-result : goal.overflow_add-result
overflow_add-result c =
    let reading = c.loop-i.invariant in
    let right-now = law.reading_right reading c.loop-i-test.true refl ((c.type_inv.bytes c.loop-i.i).fits) c.if-byte-least.false c.if-room-byte.false in
    record { fits = law.last_sum reading right-now }

pub returns-then-byte-lt128 : goal.returns-then-byte-lt128
returns-then-byte-lt128 c =
    let reading = c.loop-i.invariant in
    let right-now = law.reading_right reading c.loop-i-test.true refl ((c.type_inv.bytes c.loop-i.i).fits) c.if-byte-least.false c.if-room-byte.false in
    law.reading_last reading right-now c.if-byte-lt128.true

pub overflow_mul-value : goal.overflow_mul-value
overflow_mul-value c =
    let reading = c.loop-i.invariant in
    let right-now = law.reading_right reading c.loop-i-test.true refl ((c.type_inv.bytes c.loop-i.i).fits) c.if-byte-least.false c.if-room-byte.false in
    record { fits = law.more_product reading right-now c.if-byte-lt128.false }

pub overflow_add-value : goal.overflow_add-value
overflow_add-value c =
    let reading = c.loop-i.invariant in
    let right-now = law.reading_right reading c.loop-i-test.true refl ((c.type_inv.bytes c.loop-i.i).fits) c.if-byte-least.false c.if-room-byte.false in
    record { fits = law.more_sum reading right-now c.if-byte-lt128.false }

pub overflow_mul-unit : goal.overflow_mul-unit
overflow_mul-unit c =
    let reading = c.loop-i.invariant in
    let right-now = law.reading_right reading c.loop-i-test.true refl ((c.type_inv.bytes c.loop-i.i).fits) c.if-byte-least.false c.if-room-byte.false in
    record { fits = law.more_unit reading right-now c.if-byte-lt128.false }

pub loop-i-preserved : goal.loop-i-preserved
loop-i-preserved c =
    let r = c.loop-i.invariant in
    law.reading_more r (law.reading_right r c.loop-i-test.true refl ((c.type_inv.bytes c.loop-i.i).fits) c.if-byte-least.false c.if-room-byte.false)
    c.if-byte-lt128.false

pub returns : goal.returns
returns c =
    let reading = c.loop-i.invariant in
    refuses c.refuse-2.ensures (law.reading_end reading c.loop-i-test.false)
