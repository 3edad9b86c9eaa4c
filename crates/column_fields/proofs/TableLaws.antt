-- The columns of a table, one after the other.
use Prim.Native.Nat.{ℕ}
use mathlib.Core.Path.{◌≡◌, refl, sym, ap, ◌∙◌}
use mathlib.Core.List.{List, [], ◌∷◌, ◌++◌, map, zip}
use Rattle.local_format.specs.Out.{Out, ok, refused, ◌>>=◌}
use Rattle.local_format.proofs.OutLaws.{on_ok}
use Rattle.groups.specs.Groups.{Read}
use Rattle.evr0_columns.specs.Form.{and_then, many}
use Rattle.evr0_columns.specs.Layout.{Item, in_groups, field, by_column}
use Rattle.column_fields.specs.Past.{past}
use Rattle.column_fields.proofs.PastLaws.{past_then, past_through}

-- ---- A column and then the others
past_on : {A : Type 0} (x : Out (Read A)) (f : List ℕ → Out (List ℕ)) → (x >>= λ a. f a.rest) ≡ (past x >>= f)
past_on (ok a) f = refl
past_on (refused r) f = refl

module _ (count end : ℕ) where
  abbrev pub table_of : List Item → List ℕ → Out (List ℕ)
  table_of items s = past ((by_column in_groups count items).get end s)

  abbrev pub column_of : Item → List ℕ → Out (List ℕ)
  column_of item s = past ((many count (field in_groups item)).get end s)

  pub table_cons : (item : Item) (items : List Item) (s : List ℕ) → table_of (item ∷ items) s ≡ (column_of item s >>= table_of items)
  unfolding by_column
  table_cons item items s =
      past_through end s (λ rows. (map (λ r. r.0) rows, map (λ r. r.1) rows)) (λ t. zip t.0 t.1)
      (and_then (many count (field in_groups item)) (λ v. by_column in_groups count items))
      ∙ past_then end s (many count (field in_groups item)) (λ v. by_column in_groups count items)
      ∙ past_on ((many count (field in_groups item)).get end s) (table_of items)

  pub table_none : (s : List ℕ) → table_of [] s ≡ ok s
  unfolding by_column
  table_none s = refl

  pub table_append : (items more : List Item) (s : List ℕ) → table_of (items ++ more) s ≡ (table_of items s >>= table_of more)
  table_append [] more s = sym (on_ok (table_of more) (table_none s))
  table_append (item ∷ items) more s =
      table_cons item (items ++ more) s ∙ go (column_of item s) (table_append items more)
      ∙ ap (λ (x : Out (List ℕ)). x >>= table_of more) (sym (table_cons item items s))
    where
      go : (x : Out (List ℕ)) → ((t : List ℕ) → table_of (items ++ more) t ≡ (table_of items t >>= table_of more))
          → (x >>= table_of (items ++ more)) ≡ ((x >>= table_of items) >>= table_of more)
      go (ok t) later = later t
      go (refused r) later = refl
