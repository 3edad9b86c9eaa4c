-- Laws of the fields of a record as they are written in a loop: what is written so far, and the fields from a place on.
use Prim.Native.Nat.{ℕ, ◌+◌, ◌≤◌, ◌<◌}
use mathlib.Core.Path.{◌≡◌, refl, sym, ap, subst, ◌∙◌}
use mathlib.Core.List.{List, [], ◌∷◌, ◌++◌, append_assoc, append-nil}
use native.Mathlib.Nat.{le_trans}
use native.Mathlib.Numerals.{add-one}
use native.Mathlib.Omega.{arith}
use lib.ListN.{length, get_or, take, drop, length-drop, drop_of_length-le}
use lib.Seq.{take-suc, drop-cons}
use Rattle.local_format.specs.Field.{le}
use Rattle.local_format.proofs.FieldLaws.{le_drop}
use Rattle.byte_output.specs.Maps.{Writes}
use Rattle.byte_output.specs.declared.Output.{Output}
use Rattle.byte_output.proofs.WrittenLaws.{writes_none, writes_append}
use Rattle.evr0_columns.specs.Layout.{Item, raw, whole, text, in_bytes, in_groups, field}
use Rattle.column_fields.specs.Moved.{written, field_moved}
use Rattle.column_fields.specs.Took.{left_of, FieldMoved}
use Rattle.column_fields.proofs.FieldLaws.{raw_long, whole_got, text_long}
use Rattle.column_fields.proofs.RowLaws.{plain_whole}
use Rattle.columns_put.specs.Places.{after_field, after_fields, fields_moved}
use Rattle.columns_put.proofs.PlacesLaws.{after_append, before_end}

-- what is left behind a field that lies within
left_after : (i : Item) (c : List ℕ) (at : ℕ) → after_field i c at ≤ length c
    → left_of (drop at c) ((field in_bytes i).get (length c) (drop at c)) ≡ drop (after_field i c at) c
left_after (raw n) c at h = rw (raw_long in_bytes c at n (omega (arith, length-drop at c))) refl
left_after (whole width) c at h =
    rw (whole_got in_bytes c at width (plain_whole width c at (omega (arith, length-drop at c)) refl)) refl
left_after text c at h =
    let z : at + 0 ≡ at = omega arith in
    let v : le 2 c at ≡ le 2 (drop at c) 0 = sym (le_drop 2 c at 0 ∙ ap (le 2 c) z) in
    let size = plain_whole 2 c at (omega (arith, length-drop at c)) v in
    rw (text_long in_bytes c at (le 2 c at) (at + 2) size (omega (arith, length-drop (at + 2) c))) refl

-- the first j fields are written, and what is left from `at` on is what is left behind them
pub record Heading (items : List Item) (c : List ℕ) (before after : Output) (at j : ℕ) : Type 0 where
  pub done : List ℕ
  pub written : Writes before done after
  pub same : fields_moved items c 0 ≡ done ++ fields_moved (drop j items) c (after_fields (take j items) c 0)
  pub left : drop at c ≡ drop (after_fields (take j items) c 0) c

pub heading_first : (items : List Item) (c : List ℕ) (o : Output) → length o.bytes.now ≤ 18446744073709551615
    → o.next ≤ 18446744073709551615 → Heading items c o o 0 0
heading_first items c o h k = record { done = []; written = writes_none o h k; same = refl; left = refl }

module _ {items : List Item} {c : List ℕ} {before after : Output} {at j : ℕ} (p : Heading items c before after at j) where
  module _ (inside : after_fields items c 0 ≤ length c) (here : j < length items) {item : Item} (e : item ≡ get_or items j (raw 0)) where
    abbrev place : ℕ
    place = after_fields (take j items) c 0

    there : after_fields (take (j + 1) items) c 0 ≡ after_field item c place
    there = rw (add-one j, take-suc items j (raw 0) here, ← e) (after_append (take j items) (item ∷ []) c 0)

    within : after_field item c place ≤ length c
    within = rw (← there) (le_trans (before_end (j + 1) items c 0) inside)

    abbrev moved : List ℕ → List ℕ
    moved s = written (field in_groups item) ((field in_bytes item).get (length c) s)

    pub heading_more : {t : Output} {next : ℕ} → FieldMoved in_bytes in_groups item c at after t next → Heading items c before t next (j + 1)
    unfolding field_moved
    heading_more {t} {next} m =
        record {
          done = p.done ++ field_moved item c place;
          written = writes_append p.written (subst (λ (s : List ℕ). Writes after (moved s) t) p.left m.puts);
          same = p.same ∙ rw (there, add-one j, drop-cons items j (raw 0) here, ← e, append_assoc);
          left = m.left ∙ ap (λ (s : List ℕ). left_of s ((field in_bytes item).get (length c) s)) p.left ∙ left_after item c place within
              ∙ ap (λ (n : ℕ). drop n c) (sym there);
        }

  pub heading_all : length items ≤ j → Writes before (fields_moved items c 0) after
  heading_all h = rw (p.same, drop_of_length-le items h, append-nil p.done) p.written
