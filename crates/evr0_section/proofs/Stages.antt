-- The refusals of a section: of the tables, 1 to 13, 16 to 24 and 61, or of the last pass over tables that read, 25 to 29; all of them
-- within the payload once the frame is read.
use Prim.Native.Nat.{ℕ, ◌+◌, ◌*◌, ◌≤◌, min}
use mathlib.Core.Path.{◌≡◌, refl, ap, ◌∙◌}
use mathlib.Core.Logic.{◌⊎◌, inl, inr, ⊎_elim}
use mathlib.Core.Bool.{true, false, ◌&&◌}
use mathlib.Core.List.{List}
use native.Mathlib.Omega.{arith}
use lib.Dec.{leb}
use lib.ListN.{length, length-map, length-take, length-drop}
use borrow.Author.Tests.{leb-true}
use Rattle.local_format.specs.Refusal.{Refusal}
use Rattle.local_format.specs.Out.{ok, refused, moved, at_offset}
use Rattle.local_format.specs.Field.{le}
use Rattle.local_format.specs.Text.{bytes_at, section_field}
use Rattle.local_format.specs.Tag.{tag_at, evr0}
use Rattle.local_format.proofs.OutLaws.{bind_ok, ok_same, on_ok, on_refused}
use Rattle.local_format.proofs.FieldLaws.{field_ok}
use Rattle.local_format.proofs.Each.{Each, Refuses, Within, answers, answered, each_refused, weaker, under, on, on_moved, on_check, on_passed, on_field}
use Rattle.derivation.specs.Rule.{Rule, four_rules}
use Rattle.derivation.specs.Section.{parent_total}
use Rattle.derivation.proofs.Numbers.{late, pass_late}
use Rattle.derivation.proofs.Tests.{both, either}
use Rattle.evr0_section.specs.Rows.{Row, Entry}
use Rattle.evr0_section.specs.Head.{Room}
use Rattle.evr0_section.specs.Witness.{parent_row}
use Rattle.evr0_section.specs.Section.{Frame, frame_at, Tables, parent_item, section_of, tables_of, tables_at, section_in, section_at}
use Rattle.evr0_section.specs.Demand.{Stage, in_tables, in_last_pass}
use Rattle.evr0_section.proofs.RowsLaws.{Trace, none, more, trace}
use Rattle.evr0_section.proofs.Inside.{early}
use Rattle.evr0_section.proofs.SectionWithin.{Numbered, usual, long, short, Refused, tables_refuse}
use Rattle.evr0_section.proofs.CheckedTables.{steps, cells_owned}

-- ---- The parent table ends with the payload

-- a cell takes 4 bytes
cell_size : (u : Unit {0}) (q : List ℕ) {r : Row ℕ (Unit {0})} → parent_row u q ≡ ok r → r.size ≡ 4
unfolding parent_row
cell_size u q e =
    let (g, f, k) = bind_ok (section_field 4 q 0) _ e in
    let x = field_ok 5 4 q 0 f in
    rw (← ok_same k) (omega arith)

cells_end : (p : List ℕ) {n at end : ℕ} {u last : Unit {0}} {es : List (Entry ℕ)} → Trace parent_row p n u at es last end → end ≡ at + 4 * length es
cells_end p none = omega arith
cells_end p (more r e w) = let z = cells_end p w in let l = cell_size _ _ e in omega arith

pub early_upto : (n : ℕ) → early n ≡ true → (1 ≤ n) × (n ≤ 24)
unfolding early
early_upto n t =
    ⊎_elim
    (λ h. let b = both (leb 1 n) (leb n 13) h in omega (arith, leb-true 1 n b.0, leb-true n 13 b.1))
    (λ h. let b = both (leb 16 n) (leb n 24) h in omega (arith, leb-true 16 n b.0, leb-true n 24 b.1))
    (either (leb 1 n && leb n 13) (leb 16 n && leb n 24) t)

module _ (rules : List Rule) (room : Room) where
  cells_there : (p : List ℕ) (t : Tables) → tables_of rules room p ≡ ok t → t.witnesses.next + 4 * parent_total (section_of t) ≡ length p
  unfolding section_of parent_total
  cells_there p t e =
      let s = steps rules room p t e in
      let z = cells_end p (trace parent_row p _ _ _ t.parents s.parents) in
      let l = length-map t.parents.entries parent_item in
      omega (arith, s.whole)

  -- ---- The tables of a section

  module _ (bytes : List ℕ) (cursor : ℕ) where
    frame_refuses : Each (λ f. f.len ≤ 4194304) (λ r. early r.number ≡ true) (frame_at bytes cursor)
    unfolding frame_at early
    frame_refuses =
        let len : ℕ = le 4 bytes (cursor + 4) in
        on_check (tag_at evr0 bytes cursor) 1 cursor _ refl
        (on_field 2 4 bytes (cursor + 4) _ refl λ a.
        on_passed (leb 1 len && leb len 4194304) 3 (cursor + 4) _ (λ e. refl) λ e.
        on_field 4 len bytes (cursor + 4 + 4) _ refl λ b. answers (leb-true len 4194304 (both (leb 1 len) (leb len 4194304) e).1))

    number_moves : (start len : ℕ) {n : ℕ} → len ≤ 4194304 → Numbered room (length (bytes_at bytes start len)) n → Numbered room (min 4194304 (length bytes)) n
    number_moves start len h w = go w (simp (length-take, length-drop) (omega arith))
      where
        go : {k n : ℕ} → Numbered room k n → k ≤ min 4194304 (length bytes) → Numbered room (min 4194304 (length bytes)) n
        go (usual t) l = usual t
        go (long h) l = absurd (omega arith)
        go (short c f g) l = short c (omega arith) g

    tables_numbered : Refuses (λ r. Numbered room (min 4194304 (length bytes)) r.number) (tables_at rules room bytes cursor)
    unfolding tables_at
    tables_numbered =
        on (under frame_refuses (λ r t. usual t)) λ f h.
        on_moved f.start _ (tables_refuse rules (bytes_at bytes f.start f.len) room) (λ r w. number_moves f.start f.len h w.number)

    pub tables_number : {r : Refusal} → tables_at rules room bytes cursor ≡ refused r → Numbered room (min 4194304 (length bytes)) r.number
    tables_number e = each_refused tables_numbered e

    of_tables : {r : Refusal} → tables_at rules room bytes cursor ≡ refused r → Stage rules room bytes cursor r
    of_tables {r} e = in_tables e (go r.number (tables_number e))
      where
        go : (n : ℕ) → Numbered room (min 4194304 (length bytes)) n → ((1 ≤ n) × (n ≤ 24)) ⊎ (n ≡ 61)
        go n (usual t) = inl (early_upto n t)
        go n (long h) = absurd (omega arith)
        go n (short c l h) = inr refl

  -- ---- The section

  -- of a refusal of the payload p
  data InPayload (p : List ℕ) (r : Refusal) : Type 0 where
    tables : tables_of rules room p ≡ refused r → Refused room p r → InPayload p r
    last_pass : (t : Tables) → tables_of rules room p ≡ ok t → Within (length p) late r → InPayload p r

  section_refuses : (p : List ℕ) (cursor : ℕ) → Refuses (InPayload p) (section_in rules room p cursor)
  unfolding section_in
  section_refuses p cursor =
      on (weaker (answered (tables_of rules room p) (tables_refuse rules p room)) (λ t h. h.0) (λ r h. tables h.0 h.1)) λ t e.
      let z = cells_there p t e in
      on (under (pass_late (length p) t.witnesses.next (section_of t) (omega arith) (cells_owned rules room p t e)) (λ r w. last_pass t e w))
      λ ds u. answers tt

  pub section_within : (p : List ℕ) (cursor : ℕ) {r : Refusal} → section_in rules room p cursor ≡ refused r → r.offset ≤ length p
  section_within p cursor e = go (each_refused (section_refuses p cursor) e)
    where
      go : {r : Refusal} → InPayload p r → r.offset ≤ length p
      go (tables e w) = w.offset
      go (last_pass t e w) = w.offset

  module _ (bytes : List ℕ) (cursor : ℕ) where
    stages : Refuses (Stage rules room bytes cursor) (section_at rules room bytes cursor)
    unfolding section_at tables_at late
    stages =
        on (weaker (answered (frame_at bytes cursor) (frame_refuses bytes cursor)) (λ f h. h.0) (λ r h. of_tables bytes cursor (on_refused _ h.0))) λ f e.
        on_moved f.start _ (section_refuses (bytes_at bytes f.start f.len) (f.start + f.len)) (go f e)
      where
        go : (f : Frame) → frame_at bytes cursor ≡ ok f → (r : Refusal) → InPayload (bytes_at bytes f.start f.len) r
            → Stage rules room bytes cursor (at_offset r (f.start + r.offset))
        go f e r (tables h w) = of_tables bytes cursor (on_ok _ e ∙ ap (moved f.start) h)
        go f e r (last_pass t h w) =
            let b = both (leb 25 r.number) (leb r.number 29) w.numbered in
            in_last_pass t (on_ok _ e ∙ ap (moved f.start) h) (leb-true 25 r.number b.0) (leb-true r.number 29 b.1)

    pub stage : (r : Refusal) → section_at rules room bytes cursor ≡ refused r → Stage rules room bytes cursor r
    stage r e = each_refused stages e

    -- 14 and 15: after 3 and 13 no sum is above its limit
    pub never_14_15 : (r : Refusal) → section_at rules room bytes cursor ≡ refused r → (r.number ≡ 14 → ⊥) × (r.number ≡ 15 → ⊥)
    unfolding early
    never_14_15 r e = of_stage (stage r e)
      where
        of_number : {n : ℕ} → Numbered room (min 4194304 (length bytes)) n → (n ≡ 14 → ⊥) × (n ≡ 15 → ⊥)
        of_number (usual t) = (
          (λ e. let z : false ≡ true = rw e at t in absurd (let q : ◌≡◌ {A = ℕ} 0 1 = cc in omega arith)),
          (λ e. let z : false ≡ true = rw e at t in absurd (let q : ◌≡◌ {A = ℕ} 0 1 = cc in omega arith)),
        )
        of_number (long h) = absurd (omega arith)
        of_number (short c l h) = ((λ e. omega arith), (λ e. omega arith))

        of_stage : Stage rules room bytes cursor r → (r.number ≡ 14 → ⊥) × (r.number ≡ 15 → ⊥)
        of_stage (in_tables t w) = of_number (tables_number bytes cursor t)
        of_stage (in_last_pass t h a b) = ((λ e. omega arith), (λ e. omega arith))

pub four_within : (room : Room) (p : List ℕ) (cursor : ℕ) {r : Refusal} → section_in four_rules room p cursor ≡ refused r → r.offset ≤ length p
four_within room = section_within four_rules room
