-- Laws of the columns of a table as they are written in a loop: what is written so far, and the columns of the fields behind.
use Prim.Native.Nat.{ℕ, ◌+◌, ◌≤◌, ◌<◌}
use mathlib.Core.Path.{◌≡◌, refl, ap, ap₂, ◌∙◌}
use mathlib.Core.List.{List, [], ◌∷◌, ◌++◌, append_assoc, append-nil}
use native.Mathlib.Numerals.{add-one}
use lib.ListN.{length, get_or, take, drop, drop_of_length-le}
use lib.Seq.{take-suc, drop-cons}
use Rattle.byte_output.specs.Maps.{Writes}
use Rattle.byte_output.specs.declared.Output.{Output}
use Rattle.byte_output.proofs.WrittenLaws.{writes_none, writes_append}
use Rattle.evr0_columns.specs.Form.{each}
use Rattle.evr0_columns.specs.Layout.{Item, raw}
use Rattle.column_fields.specs.Moved.{field_moved}
use Rattle.columns_put.specs.Places.{after_fields, behind_moved, others_moved, table_moved}
use Rattle.columns_put.specs.Maps.{place_of, column_moved}
use Rattle.columns_put.specs.declared.path.Path.{Path}

-- ---- One after the other
module _ (f : ℕ → List ℕ) where
  each_append : (xs ys : List ℕ) → each f (xs ++ ys) ≡ each f xs ++ each f ys
  unfolding each
  each_append [] ys = refl
  each_append (x ∷ xs) ys = rw (each_append xs ys, append_assoc)

  pub each_none : (xs : List ℕ) → each f (take 0 xs) ≡ []
  unfolding each
  each_none xs = refl

  pub each_more : (xs : List ℕ) (i : ℕ) → i < length xs → each f (take (i + 1) xs) ≡ each f (take i xs) ++ f (get_or xs i 0)
  unfolding each
  each_more xs i h = rw (add-one i, take-suc xs i 0 h, each_append (take i xs) (get_or xs i 0 ∷ []), append-nil (f (get_or xs i 0)))

each_same : (f g : ℕ → List ℕ) → ((s : ℕ) → f s ≡ g s) → (xs : List ℕ) → each f xs ≡ each g xs
unfolding each
each_same f g same [] = refl
each_same f g same (x ∷ xs) = ap₂ ◌++◌ (same x) (each_same f g same xs)

-- ---- Columns

-- the first j columns are written
pub record Putting (items : List Item) (c starts : List ℕ) (before after : Output) (j : ℕ) : Type 0 where
  pub done : List ℕ
  pub written : Writes before done after
  pub same : table_moved items c starts ≡ done ++ others_moved (take j items) (drop j items) c starts

pub putting_first : (items : List Item) (c starts : List ℕ) (o : Output) → length o.bytes.now ≤ 18446744073709551615
    → o.next ≤ 18446744073709551615 → Putting items c starts o o 0
putting_first items c starts o h k = record { done = []; written = writes_none o h k; same = refl }

module _ {items : List Item} {c starts : List ℕ} {before after : Output} {j : ℕ} (p : Putting items c starts before after j) where
  pub putting_more : (path : Path) {item : Item} {t : Output} → j < length items → item ≡ get_or items j (raw 0)
      → ((b : List ℕ) (s : ℕ) → place_of b path s ≡ after_fields (take j items) b s)
      → Writes after (column_moved item path c starts) t → Putting items c starts before t (j + 1)
  unfolding others_moved
  putting_more path {item} here e place w =
      let col : column_moved item path c starts ≡ behind_moved (take j items) (get_or items j (raw 0)) c starts =
      rw (← e) (each_same _ _ (λ s. ap (field_moved item c) (place c s)) starts) in
      record {
        done = p.done ++ column_moved item path c starts;
        written = writes_append p.written w;
        same = p.same ∙ rw (add-one j, drop-cons items j (raw 0) here, take-suc items j (raw 0) here, col, append_assoc);
      }

  pub putting_all : length items ≤ j → Writes before (table_moved items c starts) after
  unfolding others_moved
  putting_all h = rw (p.same, drop_of_length-le items h, append-nil p.done) p.written
