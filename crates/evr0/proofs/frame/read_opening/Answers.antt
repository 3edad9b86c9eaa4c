-- Meets its contract: the frame as it was read, or the refusal of another schema, by `FrameLaws`.
use Prim.Native.Nat.{ℕ, ◌+◌}
use mathlib.Core.Path.{◌≡◌, sym, ap, ◌∙◌}
use mathlib.Core.List.{List}
use native.Mathlib.Omega.{arith}
use Rattle.std.proofs.Common.{rules}
use Rattle.local_format.specs.Out.{refuse}
use Rattle.local_format.specs.Field.{field_at, or_cut, whole}
use Rattle.local_format.specs.Text.{bytes_at}
use Rattle.local_format.specs.Maps.{answer_out}
use Rattle.local_format.proofs.FieldLaws.{field_ok}
use Rattle.evr0_section.specs.Section.{frame_at}
use Rattle.evr0_section.proofs.SectionSteps.{frame_place}
use Rattle.evr0.specs.Maps.{frame_out}
use Rattle.evr0.proofs.FrameLaws.{opens, no_schema, check_refused}
use Rattle.evr0.proofs.DecodeLaws.{same_part}
use Rattle.evr0.proofs.frame.read_opening.Goals as goal

pub returns-in_err-start : goal.returns-in_err-start
returns-in_err-start c =
    let e : answer_out frame_out c.from_residual.result ≡ frame_at c.args.bytes.now c.args.cursor = rw (← c.in_err-start.ensures) (search rules) in
    opens _ _ e

pub overflow_add-end : goal.overflow_add-end
overflow_add-end c =
    omega (arith, (frame_place _ _ (sym c.in_ok-start.ensures)).1)

pub slice_bounds-field_at-end : goal.slice_bounds-field_at-end
slice_bounds-field_at-end c =
    (frame_place _ _ (sym c.in_ok-start.ensures)).1

pub overflow_add-start : goal.overflow_add-start
overflow_add-start c =
    omega (arith, (frame_place _ _ (sym c.in_ok-start.ensures)).1, (field_ok 0 2 _ 0 (ap (or_cut 0 0) (sym c.in-Some.ensures))).0)

pub returns-in_err-check : goal.returns-in_err-check
returns-in_err-check c =
    let frame = c.in_ok-start.field-0 in
    let field = c.in-Some.field-0 in
    let k = check_refused _ 10 _ c.in_err-check.ensures in
    let g : answer_out frame_out c.from_residual-in_err-check.result ≡ refuse 10 (frame.start + field.next) = rw (← k.1) (search rules) in
    let version : field_at 2 (bytes_at c.args.bytes.now frame.start frame.len) 0 ≡ whole (record { value = field.value; next = field.next }) =
    sym (ap (λ (p : List ℕ). field_at 2 p 0) (same_part c.args.bytes.now frame.start frame.len)) ∙ sym c.in-Some.ensures in
    rw g (no_schema _ _ _ (sym c.in_ok-start.ensures) _ _ version (sym c.is_schema.ensures ∙ k.0))
