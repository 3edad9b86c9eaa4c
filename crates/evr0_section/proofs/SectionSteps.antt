-- A section that was decoded, taken apart into its frame, its tables and its depths, and put together.
use Prim.Native.Nat.{ℕ, ◌+◌, ◌≤◌}
use mathlib.Core.Path.{◌≡◌, ap, ◌∙◌, subst}
use mathlib.Core.List.{List}
use mathlib.Core.Bool.{◌&&◌}
use native.Mathlib.Omega.{arith}
use lib.Dec.{leb}
use lib.ListN.{length}
use Rattle.local_format.specs.Refusal.{Refusal}
use Rattle.local_format.specs.Out.{ok, refused, moved, at_offset}
use Rattle.local_format.specs.Field.{field}
use Rattle.local_format.specs.Tag.{tag_at, evr0}
use Rattle.local_format.specs.Text.{bytes_at}
use Rattle.local_format.proofs.OutLaws.{bind_ok, checked_ok, on_ok, on_refused, moved_ok, ok_same}
use Rattle.local_format.proofs.FieldLaws.{field_ok}
use Rattle.derivation.specs.Rule.{Rule}
use Rattle.derivation.specs.Pass.{depths}
use Rattle.evr0_section.specs.Head.{Room}
use Rattle.evr0_section.specs.Section.{Frame, frame_at, Tables, Section, section_of, tables_of, tables_at, section_in, section_at}

-- a payload starts 8 bytes after the cursor, and ends within the file
pub frame_place : (s : List ℕ) (cursor : ℕ) {f : Frame} → frame_at s cursor ≡ ok f → (f.start ≡ cursor + 8) × (f.start + f.len ≤ length s)
unfolding frame_at
frame_place s cursor {f} e =
    let t = checked_ok (tag_at evr0 s cursor) 1 cursor _ e in
    let size = bind_ok (field 2 4 s (cursor + 4)) _ t.1 in
    let c = checked_ok (leb 1 size.0.value && leb size.0.value 4194304) 3 (cursor + 4) _ size.2 in
    let payload = bind_ok (field 4 size.0.value s size.0.next) _ c.1 in
    let next : size.0.next ≡ cursor + 8 = omega (arith, (field_ok 2 4 s (cursor + 4) size.1).0) in
    let within : size.0.next + size.0.value ≤ length s = (field_ok 4 size.0.value s size.0.next payload.1).1 in
    subst (λ (x : Frame). (x.start ≡ cursor + 8) × (x.start + x.len ≤ length s)) (ok_same payload.2) (next, within)

module _ (rules : List Rule) (room : Room) (bytes : List ℕ) (cursor : ℕ) where
  abbrev payload : Frame → List ℕ
  payload f = bytes_at bytes f.start f.len

  pub tables_of_lem : (t : Tables) → tables_at rules room bytes cursor ≡ ok t → (f : Frame) × (frame_at bytes cursor ≡ ok f)
      × (tables_of rules room (payload f) ≡ ok t)
  unfolding tables_at
  tables_of_lem t e = let a = bind_ok (frame_at bytes cursor) _ e in (a.0, a.1, moved_ok a.0.start _ a.2)

  pub record Parts (d : Section) : Type 0 where
    pub tables : tables_at rules room bytes cursor ≡ ok d.tables
    pub depths : depths d.tables.witnesses.next (section_of d.tables) ≡ ok d.depths

  pub section_parts : (d : Section) → section_at rules room bytes cursor ≡ ok d → Parts d
  unfolding section_at section_in tables_at
  section_parts d e =
      let a = bind_ok (frame_at bytes cursor) _ e in
      let b = bind_ok (tables_of rules room (payload a.0)) _ (moved_ok a.0.start _ a.2) in
      let c = bind_ok (depths b.0.witnesses.next (section_of b.0)) _ b.2 in
      subst Parts (ok_same c.2)
      (record { tables = on_ok _ a.1 ∙ ap (moved a.0.start) b.1; depths = c.1 })

  pub section_of_lem : (t : Tables) (ds : List ℕ) → tables_at rules room bytes cursor ≡ ok t → depths t.witnesses.next (section_of t) ≡ ok ds
      → (d : Section) × (section_at rules room bytes cursor ≡ ok d)
  unfolding section_at section_in
  section_of_lem t ds e h =
      let a = tables_of_lem t e in (
        record { tables = t; depths = ds; cursor = _ },
        on_ok _ a.1 ∙ ap (moved a.0.start) (on_ok _ a.2 ∙ on_ok _ h),
      )

  pub section_refused : (t : Tables) (r : Refusal) → tables_at rules room bytes cursor ≡ ok t → depths t.witnesses.next (section_of t) ≡ refused r
      → section_at rules room bytes cursor ≡ refused (at_offset r (cursor + 8 + r.offset))
  unfolding section_at section_in
  section_refused t r e h =
      let a = tables_of_lem t e in
      on_ok _ a.1
      ∙ ap (moved a.0.start) (on_ok _ a.2 ∙ on_refused _ h)
      ∙ ap (λ (n : ℕ). refused (at_offset r (n + r.offset))) (frame_place bytes cursor a.1).0
