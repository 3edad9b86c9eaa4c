-- Meets its contract, step by step; the payload is there by `FrameLaws.payload_tested`.
use Prim.Native.Nat.{◌+◌, ◌≤◌}
use mathlib.Core.Path.{◌≡◌, sym, ap, ◌∙◌}
use mathlib.Core.Bool.{true}
use native.Mathlib.Omega.{arith}
use lib.ListN.{length}
use Rattle.std.proofs.Common.{rules}
use Rattle.local_format.specs.Field.{or_cut}
use Rattle.local_format.specs.Tag.{tag_at, evr0}
use Rattle.local_format.proofs.OutLaws.{check_ok}
use Rattle.local_format.proofs.FieldLaws.{field_ok}
use Rattle.local_format.proofs.TagLaws.{tag_there}
use Rattle.evr0_section.specs.Section.{frame_at}
use Rattle.evr0.proofs.FrameLaws.{payload_tested}
use Rattle.evr0.proofs.frame.read_frame.Goals as goal

pub overflow_add-len_at : goal.overflow_add-len_at
overflow_add-len_at c =
    let tag : tag_at evr0 c.args.bytes.now c.args.cursor ≡ true = sym c.tag_at.ensures ∙ check_ok _ _ _ (sym c.in_ok-check.ensures) in
    omega (arith, tag_there _ _ _ tag)

pub overflow_sub-bytes : goal.overflow_sub-bytes
overflow_sub-bytes c =
    let a = c.args in
    let f = field_ok 0 4 a.bytes.now (a.cursor + 4) (ap (or_cut 0 (a.cursor + 4)) (sym c.in-Some.ensures)) in
    omega arith

pub returns-in_err-check-3 : goal.returns-in_err-check-3
unfolding frame_at
returns-in_err-check-3 c =
    let a = c.args in
    let f = field_ok 0 4 a.bytes.now (a.cursor + 4) (ap (or_cut 0 (a.cursor + 4)) (sym c.in-Some.ensures)) in
    let within : c.in-Some.field-0.next ≤ length a.bytes.now = omega arith in
    rw (
      ← c.tag_at.ensures,
      ← c.in_ok-check.ensures,
      ← c.in-Some.ensures,
      ← c.in_ok-check-2.ensures,
      payload_tested _ _ _ within,
      ← c.in_err-check-3.ensures,
    ) (search rules)

pub returns : goal.returns
unfolding frame_at
returns c =
    let a = c.args in
    let f = field_ok 0 4 a.bytes.now (a.cursor + 4) (ap (or_cut 0 (a.cursor + 4)) (sym c.in-Some.ensures)) in
    let within : c.in-Some.field-0.next ≤ length a.bytes.now = omega arith in
    rw (
      ← c.tag_at.ensures,
      ← c.in_ok-check.ensures,
      ← c.in-Some.ensures,
      ← c.in_ok-check-2.ensures,
      payload_tested _ _ _ within,
      ← c.in_ok-check-3.ensures,
    )
