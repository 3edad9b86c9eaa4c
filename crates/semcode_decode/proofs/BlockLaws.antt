-- A block's layout and its tables of starts from its four tables.
use mathlib.Core.Path.{◌≡◌, refl, ap, sym, ◌∙◌}
use Prim.Native.Nat.{ℕ}
use mathlib.Core.List.{List}
use Rattle.local_format.specs.Refusal.{Refusal}
use Rattle.local_format.specs.Out.{Out, ok, refused, ◌>>=◌}
use Rattle.local_format.specs.Text.{Span}
use Rattle.local_format.specs.Tag.{dbg0, own0}
use Rattle.local_format.proofs.OutLaws.{never, refused_same, ok_same}
use Rattle.semcode_records.specs.Records.{Table}
use Rattle.semcode_records.specs.Symbol.{Symbol}
use Rattle.semcode_records.specs.Path.{Path}
use Rattle.semcode_decode.specs.Block.{Rooms, string_table, symbol_table, path_table, Section, section_at, signature_at, Block, block_of}
use Rattle.semcode_decode.specs.Layout.{
  Layout,
  layout_of,
  layout,
  Extent,
  extent_of,
  extent,
  Tagged,
  tagged,
  table_in,
  strings_in,
  paths_in,
}

-- a step of which only a part is kept, in front of two others
step : {A B C E : Type 0} (x : Out A) (part : A → E) (f : A → Out B) (g : B → Out C) (h : E → Out C)
    → ((a : A) → (f a >>= g) ≡ h (part a)) → ((x >>= f) >>= g) ≡ ((x >>= λ a. ok (part a)) >>= h)
step (ok a) part f g h p = p a
step (refused r) part f g h p = refl

abbrev pub tagged_of : {A : Type 0} → Section A → Tagged
tagged_of s = record { found = s.found; extent = extent_of s.table }

abbrev pub layout_from : Extent → Tagged → Tagged → Tagged → Layout
layout_from strings debug ownership signature =
    record {
      strings = strings.count;
      strings_end = strings.end;
      debug = debug.found;
      symbols = debug.extent.count;
      symbols_start = debug.extent.start;
      ownership = ownership.found;
      paths = ownership.extent.count;
      signature = signature.found;
      families = signature.extent.count;
      families_start = signature.extent.start;
      instructions = signature.extent.end;
    }

pub layout_refused : (x : Out Block) {r : Refusal} → layout x ≡ refused r → x ≡ refused r
layout_refused (ok b) e = absurd (never (sym e))
layout_refused (refused q) e = ap refused (refused_same e)

pub layout_ok : (x : Out Block) {l : Layout} → layout x ≡ ok l → (b : Block) × (x ≡ ok b) × (layout_of b ≡ l)
layout_ok (ok b) h = (b, refl, ok_same h)
layout_ok (refused r) h = absurd (never h)

pub extent_ok : {A : Type 0} (x : Out (Table A)) {e : Extent} → extent x ≡ ok e → (t : Table A) × (x ≡ ok t) × (t.end ≡ e.end)
extent_ok (ok t) h = (t, refl, ap (λ (e : Extent). e.end) (ok_same h))
extent_ok (refused r) h = absurd (never h)

pub tagged_ok : {A : Type 0} (x : Out (Section A)) {g : Tagged} → tagged x ≡ ok g → (d : Section A) × (x ≡ ok d) × (tagged_of d ≡ g)
tagged_ok (ok d) h = (d, refl, ok_same h)
tagged_ok (refused r) h = absurd (never h)

module _ (revision : ℕ) (rooms : Rooms) (s : List ℕ) where
  abbrev strings : Out (Table Span)
  strings = string_table s rooms.strings 0

  abbrev debug_at : ℕ → Out (Section Symbol)
  debug_at at = section_at dbg0 (symbol_table s rooms.symbols) s at

  abbrev ownership_at : ℕ → Out (Section Path)
  ownership_at at = section_at own0 (path_table revision s rooms.paths) s at

  abbrev signature_from : Tagged → Out (Section ℕ)
  signature_from third = signature_at revision third.found s rooms.families third.extent.end

  layout_steps : layout (block_of revision rooms s) ≡ (do
    first ← extent strings
    second ← tagged (debug_at first.end)
    third ← tagged (ownership_at second.extent.end)
    fourth ← tagged (signature_from third)
    ok (layout_from first second third fourth))
  unfolding block_of
  layout_steps =
      step strings extent_of _ _ _ λ t.
      step (debug_at t.end) tagged_of _ _ _ λ d.
      step (ownership_at d.table.end) tagged_of _ _ _ λ o.
      step (signature_from (tagged_of o)) tagged_of _ _ _ λ g.
      refl

  pub strings_refused : {r : Refusal} → extent strings ≡ refused r → block_of revision rooms s ≡ refused r
  strings_refused e = layout_refused (block_of revision rooms s) (layout_steps ∙ rw e)

  pub debug_refused : {first : Extent} {r : Refusal} → extent strings ≡ ok first → tagged (debug_at first.end) ≡ refused r
      → block_of revision rooms s ≡ refused r
  debug_refused e e' = layout_refused (block_of revision rooms s) (layout_steps ∙ rw (e, e'))

  pub ownership_refused : {first : Extent} {second : Tagged} {r : Refusal} → extent strings ≡ ok first → tagged (debug_at first.end) ≡ ok second
      → tagged (ownership_at second.extent.end) ≡ refused r
      → block_of revision rooms s ≡ refused r
  ownership_refused e e' e'' = layout_refused (block_of revision rooms s) (layout_steps ∙ rw (e, e', e''))

  pub signature_refused : {first : Extent} {second third : Tagged} {r : Refusal} → extent strings ≡ ok first → tagged (debug_at first.end) ≡ ok second
      → tagged (ownership_at second.extent.end) ≡ ok third → tagged (signature_from third) ≡ refused r
      → block_of revision rooms s ≡ refused r
  signature_refused e e' e'' f = layout_refused (block_of revision rooms s) (layout_steps ∙ rw (e, e', e'', f))

  pub block_is : {t : Table Span} {d : Section Symbol} {o : Section Path} {g : Section ℕ} → strings ≡ ok t → debug_at t.end ≡ ok d
      → ownership_at d.table.end ≡ ok o → signature_from (tagged_of o) ≡ ok g
      → block_of revision rooms s ≡ ok (record { strings = t; debug = d; ownership = o; signature = g })
  unfolding block_of
  block_is e e' e'' f = rw (e, e', e'', f)

  -- all four are read
  pub all_read : {first : Extent} {second third fourth : Tagged} → extent strings ≡ ok first → tagged (debug_at first.end) ≡ ok second
      → tagged (ownership_at second.extent.end) ≡ ok third → tagged (signature_from third) ≡ ok fourth
      → (layout (block_of revision rooms s) ≡ ok (layout_from first second third fourth))
      × (strings_in (block_of revision rooms s) ≡ strings)
      × (paths_in (block_of revision rooms s) ≡ table_in (ownership_at second.extent.end))
  all_read {first} {second} {third} e e' e'' f =
      let (t, is-t, end-t) = extent_ok strings e in
      let (d, is_d, of-d) = tagged_ok (debug_at first.end) e' in
      let (o, is-o, of-o) = tagged_ok (ownership_at second.extent.end) e'' in
      let (g, is-g, of-g) = tagged_ok (signature_from third) f in
      let block =
      block_is is-t (ap debug_at end-t ∙ is_d) (ap ownership_at (ap (λ (g : Tagged). g.extent.end) of-d) ∙ is-o) (ap signature_from of-o ∙ is-g)
      in
      (layout_steps ∙ rw (e, e', e'', f), ap strings_in block ∙ sym is-t, ap paths_in block ∙ sym (ap table_in is-o))
