-- The two round trips: an accepted section's columns, taken back, give the section byte for byte; and a column file that is taken back is the one that
-- its section would write.
use Prim.Native.Nat.{ℕ, ◌-◌, ◌≤◌, ◌<◌}
use mathlib.Core.Path.{◌≡◌, refl, sym, ap, ◌∙◌, subst}
use mathlib.Core.Logic.{◌⊎◌, ⊎_elim, ◌↔◌}
use mathlib.Core.Bool.{Bool, true, false, cond}
use mathlib.Core.List.{List, [], ◌++◌, append-nil}
use native.Mathlib.Omega.{arith}
use lib.Dec.{eqb, leb}
use lib.ListN.{length, take, drop, take-append-drop, length-take}
use lib.Seq.{take_all}
use borrow.Author.Tests.{le-leb, lt-leb, leb-true}
use Rattle.local_format.specs.Refusal.{Refusal}
use Rattle.local_format.specs.Out.{ok, refused, refuse}
use Rattle.local_format.proofs.OutLaws.{never, ok_same, on_ok, on_refused, bind_ok, bind_refused, checked_ok}
use Rattle.evr0_section.specs.Head.{Room, span_width}
use Rattle.derivation.specs.Rule.{Rule}
use Rattle.evr0_section.specs.Section.{Section, section_at}
use Rattle.rule_table.specs.ByTable.{Given, rules_given, decode_by}
use Rattle.groups.specs.Groups.{Bytes}
use Rattle.groups.proofs.BytesLaws.{bytes_after, bytes_before}
use Rattle.evr0_columns.specs.Form.{whole, rewritten}
use Rattle.evr0_columns.specs.Layout.{in_bytes, in_groups, by_row, by_column}
use Rattle.evr0_columns.specs.Columns.{Head, Contents, head_items, schema_of, layout_of, layout, section_form, column_form}
use Rattle.evr0_columns.specs.Columns.{columns_of, rebuilt, Copy, section_bytes, written, taken_back}
use Rattle.evr0_columns.proofs.FormLaws.{Met, Lawful, LeftOver, then_lawful, whole_once, whole_met, rewritten_bytes, there_and_back}
use Rattle.evr0_columns.proofs.Frames.{decoded, section_alone}
use Rattle.evr0_columns.proofs.LayoutLaws.{bytes_lawful, groups_lawful, narrow, narrow_tables, FitsRecord, FitsTables}
use Rattle.evr0_columns.proofs.LayoutLaws.{fields_lawful, row_lawful, column_lawful, tables_lawful}

-- ---- Both forms keep the laws, for the same contents

abbrev pub Fits : Contents → Type 0
Fits v = FitsRecord head_items v.0 × FitsTables (layout v.0) v.1

width_narrow : (schema : ℕ) → narrow (span_width schema) ≡ true
unfolding span_width
width_narrow schema = go (eqb schema 2)
  where
    go : (t : Bool) → narrow (cond t 8 4) ≡ true
    go true = refl
    go false = refl

layout_narrow : (h : Head) → narrow_tables (layout h) ≡ true
unfolding layout_of
layout_narrow h = rw (width_narrow (schema_of h))

pub section_lawful : Lawful section_form Fits
section_lawful =
    then_lawful (fields_lawful in_bytes (λ width n. bytes_lawful width) head_items refl)
    (λ h. tables_lawful (by_row in_bytes) (row_lawful in_bytes (λ width n. bytes_lawful width)) (layout h) (layout_narrow h))

columns_lawful : Lawful column_form Fits
columns_lawful =
    then_lawful (fields_lawful in_groups groups_lawful head_items refl)
    (λ h. tables_lawful (by_column in_groups) (column_lawful in_groups groups_lawful) (layout h) (layout_narrow h))

-- columns that were written go back to the section, and a section that was rebuilt to the columns
module _ (s c : List ℕ) where
  pub columns_back : Bytes s → columns_of s ≡ ok c → rebuilt c ≡ ok s
  unfolding columns_of rebuilt
  columns_back bytes e = there_and_back section_lawful columns_lawful s c bytes e

  pub section_back : Bytes c → rebuilt c ≡ ok s → columns_of s ≡ ok c
  unfolding columns_of rebuilt
  section_back bytes e = there_and_back columns_lawful section_lawful c s bytes e

  pub rebuilt_bytes : Bytes c → rebuilt c ≡ ok s → Bytes s
  unfolding rebuilt
  rebuilt_bytes bytes e = rewritten_bytes columns_lawful section_lawful c s bytes e

-- what is refused before any section is there: 75 at a byte of the file, 76 at its end, or 76 at the first byte left over
pub rebuilt_refused : (c : List ℕ) (r : Refusal) → Bytes c → rebuilt c ≡ refused r → Met (length c) r ⊎ LeftOver column_form c r
unfolding rebuilt rewritten
rebuilt_refused c r bytes e =
    ⊎_elim (whole_met columns_lawful c r bytes) (λ z. absurd (never (sym z.2))) (bind_refused (whole column_form c) _ e)

-- ---- The order of refusals
module _ (given : Given) (room : Room) (out : ℕ) where
  pub written_refused : (s : List ℕ) (cursor : ℕ) (r : Refusal) → decode_by given room s cursor ≡ refused r → written given room out s cursor ≡ refused r
  unfolding written
  written_refused s cursor r e = on_refused _ e

  pub taken_unruled : (c : List ℕ) (r : Refusal) → rules_given given ≡ refused r → taken_back given room out c ≡ refused r
  unfolding taken_back
  taken_unruled c r e = on_refused _ e

  module _ (rules : List Rule) (ruled : rules_given given ≡ ok rules) (c : List ℕ) where
    pub taken_refused : (r : Refusal) → rebuilt c ≡ refused r → taken_back given room out c ≡ refused r
    unfolding taken_back
    taken_refused r e = on_ok _ ruled ∙ on_refused _ e

    module _ (section : List ℕ) (e : rebuilt c ≡ ok section) where
      pub taken_short : out < length section → taken_back given room out c ≡ refuse 61 0
      unfolding taken_back
      taken_short h = on_ok _ ruled ∙ on_ok _ e ∙ rw (lt-leb (length section) out h)

      -- a rebuilt section that the decoder refuses gets its number and its offset there
      pub taken_decoded : (r : Refusal) → length section ≤ out → section_at rules room section 0 ≡ refused r → taken_back given room out c ≡ refused r
      unfolding taken_back
      taken_decoded r h f = on_ok _ ruled ∙ on_ok _ e ∙ rw (le-leb (length section) out h) (on_refused _ f)

      pub taken_there : (d : Section) → length section ≤ out → section_at rules room section 0 ≡ ok d
          → taken_back given room out c ≡ ok (record { section = d; bytes = section })
      unfolding taken_back
      taken_there d h f = on_ok _ ruled ∙ on_ok _ e ∙ rw (le-leb (length section) out h) (on_ok _ f)

-- ---- What was written, and what was taken back, by its steps

pub record Wrote (given : Given) (room : Room) (out : ℕ) (s : List ℕ) (cursor : ℕ) (x : Copy) : Type 0 where
  pub rules : List Rule
  pub ruled : rules_given given ≡ ok rules
  pub decoded : section_at rules room s cursor ≡ ok x.section
  pub columns : columns_of (section_bytes s cursor x.section.cursor) ≡ ok x.bytes
  pub fits : length x.bytes ≤ out

pub record Took (given : Given) (room : Room) (out : ℕ) (c : List ℕ) (x : Copy) : Type 0 where
  pub rules : List Rule
  pub ruled : rules_given given ≡ ok rules
  pub section : rebuilt c ≡ ok x.bytes
  pub fits : length x.bytes ≤ out
  pub decoded : section_at rules room x.bytes 0 ≡ ok x.section

module _ (given : Given) (room : Room) (out : ℕ) where
  pub wrote : (s : List ℕ) (cursor : ℕ) (x : Copy) → written given room out s cursor ≡ ok x → Wrote given room out s cursor x
  unfolding written decode_by
  wrote s cursor x e =
      let (d, f, e1) = bind_ok (decode_by given room s cursor) _ e in
      let (rules, l, f1) = bind_ok (rules_given given) _ f in
      let (c, g, e2) = bind_ok (columns_of (section_bytes s cursor d.cursor)) _ e1 in
      let (t, e3) = checked_ok (leb (length c) out) 61 0 _ e2 in
      subst (Wrote given room out s cursor) (ok_same e3)
      (record { rules = rules; ruled = l; decoded = f1; columns = g; fits = leb-true (length c) out t })

  pub took : (c : List ℕ) (x : Copy) → taken_back given room out c ≡ ok x → Took given room out c x
  unfolding taken_back
  took c x e =
      let (rules, l, e0) = bind_ok (rules_given given) _ e in
      let (s, f, e1) = bind_ok (rebuilt c) _ e0 in
      let (t, e2) = checked_ok (leb (length s) out) 61 0 _ e1 in
      let (d, g, e3) = bind_ok (section_at rules room s 0) _ e2 in
      subst (Took given room out c) (ok_same e3)
      (record { rules = rules; ruled = l; section = f; fits = leb-true (length s) out t; decoded = g })

-- ---- Writing
module _ (given : Given) (room : Room) (s : List ℕ) (cursor : ℕ) (d : Section) (e : decode_by given room s cursor ≡ ok d) where
  abbrev here : List ℕ
  here = section_bytes s cursor d.cursor

  -- an accepted section has columns
  pub has_columns : (c : List ℕ) × (columns_of here ≡ ok c)
  unfolding decode_by columns_of rewritten
  has_columns =
      let (rules, l, f) = bind_ok (rules_given given) _ e in
      let a = section_alone rules room s cursor d f in
      (column_form.put a.contents, on_ok _ a.read)

  -- they are what writing gives, where the output is long enough
  module _ (out : ℕ) (c : List ℕ) (f : columns_of here ≡ ok c) where
    pub written_there : length c ≤ out → written given room out s cursor ≡ ok (record { section = d; bytes = c })
    unfolding written
    written_there h = on_ok _ e ∙ on_ok _ f ∙ rw (le-leb (length c) out h)

    pub written_short : out < length c → written given room out s cursor ≡ refuse 61 0
    unfolding written
    written_short h = on_ok _ e ∙ on_ok _ f ∙ rw (lt-leb (length c) out h)

-- the same section, decoded from bytes that start with it and have this length
abbrev pub alone : Section → ℕ → Section
alone d cursor = record { tables = d.tables; depths = d.depths; cursor = cursor }

-- a part of some bytes is bytes
pub part_bytes : (s : List ℕ) (at n : ℕ) → Bytes s → Bytes (take n (drop at s))
part_bytes s at n bytes =
    bytes_before (take n (drop at s)) (drop n (drop at s)) (sym (take-append-drop n (drop at s)))
    (bytes_after (take at s) (drop at s) (sym (take-append-drop at s)) bytes)

-- taking the columns back gives the section, byte for byte
module _ (given : Given) (room : Room) (out : ℕ) (s : List ℕ) (cursor : ℕ) (x : Copy) (bytes : Bytes s) (e : written given room out s cursor ≡ ok x) where
  abbrev section : List ℕ
  section = section_bytes s cursor x.section.cursor

  pub written_back : (more : ℕ) → length section ≤ more
      → taken_back given room more x.bytes ≡ ok (record { section = alone x.section (length section); bytes = section })
  written_back more h =
      let w = wrote given room out s cursor x e in
      let b = part_bytes s cursor (x.section.cursor - cursor) bytes in
      taken_there given room more w.rules w.ruled x.bytes section (columns_back section x.bytes b w.columns) _ h
      (section_alone w.rules room s cursor x.section w.decoded).same

-- ---- Taking back

-- a rebuilt section that is accepted has no bytes after it
rebuilt_whole : (rules : List Rule) (room : Room) (c s : List ℕ) (d : Section) → Bytes c → rebuilt c ≡ ok s → section_at rules room s 0 ≡ ok d
    → section_bytes s 0 d.cursor ≡ s
unfolding columns_of rewritten
rebuilt_whole rules room c s d bytes f g =
    let (b, r, e) = bind_ok (whole section_form s) _ (section_back s c bytes f) in
    let a = section_alone rules room s 0 d g in
    let n : ℕ = d.cursor - 0 in
    let all = take-append-drop n s in
    let front = bytes_before (take n s) (drop n s) (sym all) (rebuilt_bytes s c bytes f) in
    let none : drop n s ≡ [] = whole_once section_lawful (take n s) (drop n s) a.contents b front a.read (rw all r) in
    sym (append-nil (take n s)) ∙ ap (λ (z : List ℕ). take n s ++ z) (sym none) ∙ all

-- a column file that is taken back is the one that its section would write
module _ (given : Given) (room : Room) (out : ℕ) (c : List ℕ) (x : Copy) (bytes : Bytes c) (e : taken_back given room out c ≡ ok x) where
  pub taken_only : (more : ℕ) → length c ≤ more → written given room more x.bytes 0 ≡ ok (record { section = x.section; bytes = c })
  unfolding decode_by
  taken_only more h =
      let t = took given room out c x e in
      written_there given room x.bytes 0 x.section (on_ok _ t.ruled ∙ t.decoded) more c
      (ap columns_of (rebuilt_whole t.rules room c x.bytes x.section bytes t.section t.decoded) ∙ section_back x.bytes c bytes t.section)
      h

  -- and the section has no byte after it
  pub taken_whole : x.section.cursor ≡ length x.bytes
  taken_whole =
      let t = took given room out c x e in
      let s : List ℕ = x.bytes in
      let n : ℕ = x.section.cursor in
      let all = ap length (rebuilt_whole t.rules room c s x.section bytes t.section t.decoded) in
      let inside = decoded t.rules room s 0 x.section t.decoded in
      omega (arith, all, length-take (n - 0) s, inside.next, inside.framed.inside)

-- ---- One to one: with outputs long enough, a section with no byte after it writes a file exactly where the file, taken back, gives the section
module _ (given : Given) (room : Room) (out more : ℕ) (s c : List ℕ) (d : Section) where
  pub one_to_one : Bytes s → Bytes c → length c ≤ out → length s ≤ more
      → ((written given room out s 0 ≡ ok (record { section = d; bytes = c })) × (d.cursor ≡ length s))
      ↔ (taken_back given room more c ≡ ok (record { section = d; bytes = s }))
  one_to_one bs bc ho hm = (
    λ w. let n : d.cursor - 0 ≡ length s = omega (arith, w.1) in
        let all : section_bytes s 0 d.cursor ≡ s = rw n (take_all (length s) s (omega arith)) in
        written_back given room out s 0 (record { section = d; bytes = c }) bs w.0 more (rw all hm)
        ∙ rw (all, ← w.1),
    λ t. (
      taken_only given room more c (record { section = d; bytes = s }) bc t out ho,
      taken_whole given room more c (record { section = d; bytes = s }) bc t,
    ),
  )
