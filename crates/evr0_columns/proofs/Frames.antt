-- The bytes of a section: what the decoder says of them at a cursor it says of them alone, and the section's form reads them whole.
use Prim.Native.Nat.{ℕ, ◌+◌, ◌-◌, ◌≤◌}
use mathlib.Core.Path.{◌≡◌, sym, ap, ap₂, ◌∙◌, subst}
use mathlib.Core.Bool.{true, ◌&&◌}
use mathlib.Core.List.{List}
use native.Mathlib.Omega.{arith}
use lib.Dec.{leb}
use lib.ListN.{length, take, drop, length-take, length-drop}
use lib.Seq.{take-take, drop-drop, take_all, take-add, drop_at, length-take-le}
use Rattle.local_format.specs.Out.{ok, moved}
use Rattle.local_format.specs.Field.{le, field}
use Rattle.local_format.specs.Tag.{equal, tag_at, evr0}
use Rattle.local_format.specs.Text.{bytes_at}
use Rattle.local_format.proofs.OutLaws.{ok_same, on_ok, bind_ok, checked_ok, moved_ok}
use Rattle.local_format.proofs.FieldLaws.{field_ok, field_there, le_drop, le_take}
use Rattle.local_format.proofs.TagLaws.{tag_there, tag_whole}
use Rattle.derivation.specs.Rule.{Rule}
use Rattle.derivation.specs.Pass.{depths}
use Rattle.evr0_section.specs.Head.{Room, listed}
use Rattle.evr0_section.specs.Section.{Frame, frame_at, Tables, Section, section_of, tables_of, section_in, section_at}
use Rattle.evr0_section.proofs.CheckedTables.{steps}
use Rattle.evr0_columns.specs.Form.{whole}
use Rattle.evr0_columns.specs.Layout.{copied, in_bytes, field as field_form, fields}
use Rattle.evr0_columns.specs.Columns.{Head, Contents, head_items, layout_of, layout, section_form, section_bytes}
use Rattle.evr0_columns.proofs.SectionRead.{Reads, copied_reads, head_read, starts_in, TablesRead, tables_read}

-- ---- A section stands at a cursor, with a payload of `len` bytes
pub record Framed (s : List ℕ) (cursor len : ℕ) : Type 0 where
  pub tag : take 4 (drop cursor s) ≡ evr0
  pub size : le 4 s (cursor + 4) ≡ len
  pub small : (leb 1 len && leb len 4194304) ≡ true
  pub inside : cursor + 8 + len ≤ length s

module _ (s : List ℕ) (cursor : ℕ) where
  frame_only : (f : Frame) → frame_at s cursor ≡ ok f → (f.start ≡ cursor + 8) × Framed s cursor f.len
  unfolding frame_at
  frame_only f e =
      let (t, e1) = checked_ok (tag_at evr0 s cursor) 1 cursor _ e in
      let (size, g, e2) = bind_ok (field 2 4 s (cursor + 4)) _ e1 in
      let (small, e3) = checked_ok (leb 1 size.value && leb size.value 4194304) 3 (cursor + 4) _ e2 in
      let (body, k, e4) = bind_ok (field 4 size.value s size.next) _ e3 in
      let x = field_ok 2 4 s (cursor + 4) g in
      let y = field_ok 4 size.value s size.next k in
      rw (← ok_same e4)
      (omega arith, record { tag = (tag_there evr0 s cursor t).1; size = sym x.2; small = small; inside = omega arith })

  frame_back : (len : ℕ) → Framed s cursor len → frame_at s cursor ≡ ok (record { start = cursor + 8; len = len })
  unfolding frame_at equal
  frame_back len f =
      let h : cursor + 4 + 4 ≤ length s = omega (arith, f.inside) in
      let k : cursor + 4 + 4 + len ≤ length s = omega (arith, f.inside) in
      let t : tag_at evr0 s cursor ≡ true = sym (tag_whole evr0 s cursor (omega arith)) ∙ rw f.tag in
      let e : cursor + 4 + 4 ≡ cursor + 8 = omega arith in
      rw (t, field_there 2 4 s (cursor + 4) h, f.size, f.small, field_there 4 len s (cursor + 4 + 4) k, e)

-- ---- A section that was decoded
pub record Decoded (rules : List Rule) (room : Room) (s : List ℕ) (cursor : ℕ) (d : Section) : Type 0 where
  pub len : ℕ
  pub framed : Framed s cursor len
  pub tables : tables_of rules room (bytes_at s (cursor + 8) len) ≡ ok d.tables
  pub depths : depths d.tables.witnesses.next (section_of d.tables) ≡ ok d.depths
  pub next : d.cursor ≡ cursor + 8 + len

module _ (rules : List Rule) (room : Room) (s : List ℕ) (cursor : ℕ) where
  pub decoded : (d : Section) → section_at rules room s cursor ≡ ok d → Decoded rules room s cursor d
  unfolding section_at section_in
  decoded d e =
      let (f, g, e1) = bind_ok (frame_at s cursor) _ e in
      let (start, framed) = frame_only s cursor f g in
      let p : List ℕ = bytes_at s f.start f.len in
      let (t, h, e2) = bind_ok (tables_of rules room p) _ (moved_ok f.start _ e1) in
      let (ds, k, e3) = bind_ok (depths t.witnesses.next (section_of t)) _ e2 in
      subst (Decoded rules room s cursor) (ok_same e3)
      (record { len = f.len; framed = framed; tables = rw (← start) h; depths = k; next = ap (λ (n : ℕ). n + f.len) start })

  pub decoded_back : (len : ℕ) (t : Tables) (ds : List ℕ) → Framed s cursor len → tables_of rules room (bytes_at s (cursor + 8) len) ≡ ok t
      → depths t.witnesses.next (section_of t) ≡ ok ds
      → section_at rules room s cursor ≡ ok (record { tables = t; depths = ds; cursor = cursor + 8 + len })
  unfolding section_at section_in
  decoded_back len t ds framed e h = on_ok _ (frame_back s cursor len framed) ∙ ap (moved (cursor + 8)) (on_ok _ e ∙ on_ok _ h)

-- ---- Its bytes alone
module _ (s : List ℕ) (cursor len : ℕ) (f : Framed s cursor len) where
  abbrev alone : List ℕ
  alone = bytes_at s cursor (8 + len)

  abbrev payload : List ℕ
  payload = bytes_at s (cursor + 8) len

  alone_length : length alone ≡ 8 + len
  alone_length = omega (arith, f.inside, length-take (8 + len) (drop cursor s), length-drop cursor s)

  alone_payload : drop 8 alone ≡ payload
  alone_payload =
      let l : List ℕ = drop cursor s in
      let h : 8 ≤ length l = omega (arith, f.inside, length-drop cursor s) in
      ap (drop 8) (take-add 8 len l) ∙ drop_at (take 8 l) (take len (drop 8 l)) 8 (length-take-le 8 l h) ∙ ap (take len) (drop-drop 8 cursor s)

  alone_framed : Framed alone 0 len
  alone_framed =
      record {
        tag = take-take 4 (8 + len) (drop cursor s) (omega arith) ∙ f.tag;
        size = le_take 4 (drop cursor s) (8 + len) 4 (omega arith) ∙ le_drop 4 s cursor 4 ∙ f.size;
        small = f.small;
        inside = omega (arith, alone_length);
      }

-- ---- A section's form reads it whole, where its payload has tables
pub record Placed (section : List ℕ) (t : Tables) : Type 0 where
  pub head : Head
  pub next : ℕ
  pub head_reads : Reads (length section) section (fields in_bytes head_items) 0 head next
  pub tables : TablesRead (length section) (drop 8 section) t.head.next (starts_in t) (layout head)
  pub same : layout head ≡ layout_of (listed t.head.counts) t.head.schema
  pub read : whole section_form section ≡ ok (head, tables.values)

pub placed : (rules : List Rule) (room : Room) (section : List ℕ) (t : Tables) → 8 ≤ length section → tables_of rules room (drop 8 section) ≡ ok t
    → Placed section t
unfolding whole fields field_form
placed rules room section t l e =
    let end : ℕ = length section in
    let payload : List ℕ = drop 8 section in
    let h = head_read end payload t.head (steps rules room payload t e).head in
    let tag : List ℕ = bytes_at section 0 4 in
    let len : List ℕ = bytes_at section 4 4 in
    let r1 : Reads end section (copied 4) 0 tag 4 = copied_reads end section 4 0 (omega arith) in
    let r2 : Reads end section (copied 4) 4 len 8 = copied_reads end section 4 4 (omega arith) in
    let r3 = rw (drop-drop t.head.next 8 section) at h.all.all in
    let same = ap₂ layout_of h.counts h.schema in
    let v = subst (TablesRead end payload t.head.next (starts_in t)) (sym same) (tables_read end rules room payload t e) in
    let r = rw (drop-drop t.head.next 8 section) at v.reads in
    let all = on_ok _ r1 ∙ on_ok _ (on_ok _ r2 ∙ on_ok _ r3) in
    record {
      head = (tag, (len, h.values));
      next = 8 + t.head.next;
      head_reads = all;
      tables = v;
      same = same;
      read = on_ok _ (on_ok _ all ∙ on_ok _ r);
    }

-- the bytes of a section that was decoded: the section's form reads them whole, and decoding them alone gives the same section
pub record Alone (rules : List Rule) (room : Room) (d : Section) (section : List ℕ) : Type 0 where
  pub long : 8 ≤ length section
  pub tables : tables_of rules room (drop 8 section) ≡ ok d.tables
  pub contents : Contents
  pub read : whole section_form section ≡ ok contents
  pub same : section_at rules room section 0 ≡ ok (record { tables = d.tables; depths = d.depths; cursor = length section })

pub section_alone : (rules : List Rule) (room : Room) (s : List ℕ) (cursor : ℕ) (d : Section) → section_at rules room s cursor ≡ ok d
    → Alone rules room d (section_bytes s cursor d.cursor)
section_alone rules room s cursor d e =
    let x = decoded rules room s cursor d e in
    let f = x.framed in
    let q : tables_of rules room (drop 8 (alone s cursor x.len f)) ≡ ok d.tables = rw (alone_payload s cursor x.len f) x.tables in
    let long : 8 ≤ length (alone s cursor x.len f) = omega (arith, alone_length s cursor x.len f) in
    let a = placed rules room (alone s cursor x.len f) d.tables long q in
    let n : d.cursor - cursor ≡ 8 + x.len = omega (arith, x.next) in
    let p : bytes_at (alone s cursor x.len f) 8 x.len ≡ payload s cursor x.len f =
    ap (take x.len) (alone_payload s cursor x.len f)
    ∙ take_all x.len (payload s cursor x.len f) (omega (arith, length-take x.len (drop (cursor + 8) s))) in
    let t : tables_of rules room (bytes_at (alone s cursor x.len f) 8 x.len) ≡ ok d.tables = ap (tables_of rules room) p ∙ x.tables in
    let same = decoded_back rules room (alone s cursor x.len f) 0 x.len d.tables d.depths (alone_framed s cursor x.len f) t x.depths in
    subst (λ (k : ℕ). Alone rules room d (bytes_at s cursor k)) (sym n)
    (record {
      long = long;
      tables = q;
      contents = (a.head, a.tables.values);
      read = a.read;
      same = same ∙ ap (λ (k : ℕ). ok (record { tables = d.tables; depths = d.depths; cursor = k })) (sym (alone_length s cursor x.len f));
    })
