-- The first pass over the columns of a table: the first j are passed, and the list tells where each of them starts.
use Prim.Native.Nat.{ℕ, ◌+◌, ◌≤◌, ◌<◌}
use mathlib.Core.Path.{◌≡◌, refl, sym, ap, ◌∙◌}
use mathlib.Core.Logic.{◌⊎◌, inl, inr}
use mathlib.Core.List.{List, [], ◌∷◌}
use native.Mathlib.Omega.{arith}
use native.Mathlib.Numerals.{add-one}
use lib.ListN.{length, get_or, set, take, drop, length-set, take-append-drop}
use lib.Seq.{take-suc, take_all, get_or-set_same, get_or-set_other}
use Rattle.local_format.specs.Refusal.{Refusal}
use Rattle.local_format.specs.Out.{Out, ok, refused, ◌>>=◌}
use Rattle.local_format.proofs.OutLaws.{on_ok, on_refused}
use Rattle.derivation.proofs.Tests.{order}
use Rattle.evr0_columns.specs.Layout.{Item, raw}
use Rattle.column_fields.specs.Past.{column_past, table_past}
use Rattle.column_fields.proofs.TableLaws.{table_of, table_cons, table_none, table_append}
use Rattle.columns_rebuild.specs.Noted.{Starts}

pub record Walked (items : List Item) (count : ℕ) (c : List ℕ) (at j next : ℕ) : Type 0 where
  pub is : ok (drop next c) ≡ table_past (take j items) count c at

pub walked_first : (items : List Item) (count : ℕ) (c : List ℕ) (at : ℕ) → Walked items count c at 0 at
walked_first items count c at = record { is = sym (table_none count (length c) (drop at c)) }

module _ {items : List Item} {count : ℕ} {c : List ℕ} {at j next : ℕ} (w : Walked items count c at j next) where
  pub walked_all : length items ≤ j → ok (drop next c) ≡ table_past items count c at
  walked_all h = w.is ∙ ap (λ (is : List Item). table_past is count c at) (take_all j items h)

  -- the j-th
  module _ (here : j < length items) {item : Item} (e : item ≡ get_or items j (raw 0)) where
    abbrev end : ℕ
    end = length c

    one : table_of count end (item ∷ []) (drop next c) ≡ column_past item count c next
    one = table_cons count end item [] (drop next c) ∙ go (column_past item count c next)
      where
        go : (x : Out (List ℕ)) → (x >>= table_of count end []) ≡ x
        go (ok t) = table_none count end t
        go (refused r) = refl

    step : table_past (take (j + 1) items) count c at ≡ column_past item count c next
    step =
        rw (add-one j, take-suc items j (raw 0) here, ← e)
        (table_append count end (take j items) (item ∷ []) (drop at c) ∙ on_ok (table_of count end (item ∷ [])) (sym w.is) ∙ one)

    pub walked_more : {after : ℕ} → ok (drop after c) ≡ column_past item count c next → Walked items count c at (j + 1) after
    walked_more f = record { is = f ∙ sym step }

    pub walked_refused : {r : Refusal} → refused r ≡ column_past item count c next → refused r ≡ table_past items count c at
    walked_refused f =
        sym (ap (λ (is : List Item). table_past is count c at) (sym (take-append-drop (j + 1) items))
        ∙ table_append count end (take (j + 1) items) (drop (j + 1) items) (drop at c)
        ∙ on_refused (table_of count end (drop (j + 1) items)) (step ∙ sym f))

  -- the start of the j-th is noted
  pub starts_more : {starts : List ℕ} → Starts items count c at j starts → Starts items count c at (j + 1) (set starts j next)
  starts_more {starts} s = record { is = λ k h l. go k h (omega (arith, length-set starts j next)) (order j k) }
    where
      go : (k : ℕ) → k < j + 1 → k < length starts → (j ≤ k) ⊎ (k < j) → ok (drop (get_or (set starts j next) k 0) c) ≡ table_past (take k items) count c at
      go k h l (inl m) = let e : k ≡ j = omega arith in rw (e, get_or-set_same starts j next 0 (omega arith)) w.is
      go k h l (inr m) = rw (get_or-set_other starts j k next 0 (λ e. omega arith)) (s.is k m l)

pub starts_none : (items : List Item) (count : ℕ) (c : List ℕ) (at : ℕ) (starts : List ℕ) → Starts items count c at 0 starts
starts_none items count c at starts = record { is = λ j h l. absurd (omega arith) }

pub starts_all : {items : List Item} {count : ℕ} {c : List ℕ} {at j : ℕ} {starts : List ℕ} (n : ℕ) → n ≤ j → Starts items count c at j starts
    → Starts items count c at n starts
starts_all n h s = record { is = λ k l m. s.is k (omega arith) m }
