-- A refusal's offset stands in the file, or within the frame after the cursor.
use Prim.Native.Nat.{ℕ, ◌+◌, ◌≤◌}
use mathlib.Core.Path.{◌≡◌}
use mathlib.Core.Bool.{◌&&◌}
use mathlib.Core.List.{List}
use native.Mathlib.Omega.{arith}
use lib.Dec.{leb}
use lib.ListN.{length, length-take}
use Rattle.local_format.specs.Refusal.{Refusal}
use Rattle.local_format.specs.Out.{refused}
use Rattle.local_format.specs.Field.{le}
use Rattle.local_format.specs.Tag.{tag_at, evr0}
use Rattle.local_format.specs.Text.{bytes_at}
use Rattle.local_format.proofs.Each.{Each, answers, each, each_refused, on, on_check, on_field, on_moved}
use Rattle.derivation.specs.Rule.{four_rules}
use Rattle.evr0_section.specs.Head.{Room}
use Rattle.evr0_section.specs.Section.{frame_at, section_in, section_at, decode_section}
use Rattle.evr0_section.proofs.Stages.{four_within}

frame_within : (n : ℕ) (s : List ℕ) (cursor : ℕ) → cursor + 8 ≤ n → Each (λ f. f.start + f.len ≤ length s) (λ r. r.offset ≤ n) (frame_at s cursor)
unfolding frame_at
frame_within n s cursor h =
    let len : ℕ = le 4 s (cursor + 4) in
    on_check (tag_at evr0 s cursor) 1 cursor _ (omega arith)
    (on_field 2 4 s (cursor + 4) _ (omega arith) λ a.
    on_check (leb 1 len && leb len 4194304) 3 (cursor + 4) _ (omega arith) (on_field 4 len s (cursor + 4 + 4) _ (omega arith) answers))

pub offset_within : (room : Room) (s : List ℕ) (cursor : ℕ) {r : Refusal} → decode_section room s cursor ≡ refused r → r.offset ≤ cursor + 8 + length s
unfolding decode_section section_at
offset_within room s cursor e = each_refused all e
  where
    all : Each (λ d. Unit {0}) (λ r. r.offset ≤ cursor + 8 + length s) (section_at four_rules room s cursor)
    all =
        on (frame_within (cursor + 8 + length s) s cursor (omega arith)) λ f h.
        let p : List ℕ = bytes_at s f.start f.len in
        let short : length p ≤ f.len = simp length-take (omega arith) in
        on_moved f.start _ (each (section_in four_rules room p (f.start + f.len)) (λ d q. tt) (λ r q. four_within room p (f.start + f.len) q)) λ r q.
        omega arith
