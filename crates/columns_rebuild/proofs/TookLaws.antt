-- A table is taken back by its columns and then its rows; parts of a file one after the other; and the whole file, with no byte left over.
use Prim.Native.Nat.{ℕ, ◌-◌, ◌≤◌, ◌<◌}
use mathlib.Core.Path.{◌≡◌, refl, sym, ap, subst, ◌∙◌}
use mathlib.Core.List.{List, [], ◌∷◌, zip_with}
use native.Mathlib.Omega.{arith}
use lib.ListN.{length, drop, length-drop}
use borrow.Author.Tests.{eq-eqb, ne_eqb}
use Rattle.local_format.specs.Refusal.{Refusal}
use Rattle.local_format.specs.Out.{Out, ok, refused, refuse, held}
use Rattle.local_format.proofs.OutLaws.{never, ok_same, refused_same, on_ok, on_refused}
use Rattle.std.specs.Prelude.{Result, Ok, Err}
use Rattle.local_format.specs.declared.refusal.Refusal as code_refusal
use Rattle.byte_output.specs.Written.{Written}
use Rattle.byte_output.specs.declared.Output.{Output}
use Rattle.byte_output.proofs.WrittenLaws.{written_none, written_length, written_append}
use Rattle.groups.specs.Groups.{Read}
use Rattle.evr0_columns.specs.Form.{Form, and_then, each, whole, rewritten}
use Rattle.evr0_columns.specs.Layout.{Item, Record, Table, in_bytes, in_groups, fields, by_row, by_column, tables}
use Rattle.evr0_columns.specs.Columns.{head_items, witness_items, parent_items, schema_of, layout_of, layout, section_form, column_form, rebuilt}
use Rattle.column_fields.specs.Past.{past, table_past}
use Rattle.column_fields.specs.Maps.{items_of}
use Rattle.column_fields.specs.declared.table.Table as code
use Rattle.column_fields.specs.declared.table.Table.TheVariants as table
use Rattle.columns_rebuild.specs.Noted.{Starts}
use Rattle.columns_rebuild.specs.Stand.{Stand}
use Rattle.columns_rebuild.specs.Took.{Took, Stopped, RebuiltTo}
use Rattle.columns_rebuild.specs.Maps.{TakesAs, proposition_table, proof_table, witness_table, parent_table, announced_tables, HeadTook}
use Rattle.columns_rebuild.specs.declared.head.Announced.{Announced}
use Rattle.columns_rebuild.proofs.ColumnLaws.{table_length, first_stand}

-- ---- A table
past_ok : {A : Type 0} (x : Out (Read A)) {s : List ℕ} → past x ≡ ok s → (v : A) × (x ≡ ok (record { value = v; rest = s }))
past_ok {A} (ok g) e = (g.value, ap (λ (r : List ℕ). ok (record { value = g.value; rest = r })) (ok_same e))
past_ok (refused r) e = absurd (never e)

past_refused : {A : Type 0} (x : Out (Read A)) {r : Refusal} → past x ≡ refused r → x ≡ refused r
past_refused (ok g) e = absurd (never (sym e))
past_refused (refused q) e = ap refused (refused_same e)

-- thirteen cursors are enough
pub items_most : (t : code.Table) → length (items_of t) ≤ 13
items_most table.Head = omega arith
items_most table.Propositions = omega arith
items_most table.Proofs = omega arith
items_most (table.Witnesses span) = omega arith
items_most table.Parents = omega arith

module _ (c : List ℕ) (items : List Item) (count at : ℕ) where
  pub table_stopped : {r : Refusal} → table_past items count c at ≡ refused r → Stopped (by_column in_groups count items) c at r
  table_stopped e = record { read = past_refused _ e }

  pub table_took : {n next end : ℕ} {starts before after : List ℕ} → table_past items count c at ≡ ok (drop n c)
      → Starts items count c at (length items) starts → length items ≤ length starts
      → ((rows : List (Record items)) → length rows ≡ count → Stand c items rows starts
      → Written before next (each (fields in_bytes items).put rows) after end)
      → Took (by_column in_groups count items) (by_row in_bytes count items) c at before next after n end
  table_took {n} {starts = starts} e s h w =
      let (v, read) = past_ok ((by_column in_groups count items).get (length c) (drop at c)) e in
      record {
        value = v;
        read = read;
        puts = w v (table_length count (length c) items (drop at c) _ read) (first_stand c items count at _ starts read s h);
      }

-- ---- One part and then another
module _ {A : Type 0} {B : A → Type 0} {from to : Form A} {c : List ℕ} {at : ℕ} {before middle : List ℕ} {next at' next' : ℕ}
    (from' to' : (a : A) → Form (B a)) (t : Took from to c at before next middle at' next') where
  then_stopped : {r : Refusal} → Stopped (from' t.value) c at' r → Stopped (and_then from from') c at r
  then_stopped s = record { read = on_ok _ t.read ∙ on_refused _ s.read }

  then_took : {after : List ℕ} {at'' next'' : ℕ} → Took (from' t.value) (to' t.value) c at' middle next' after at'' next''
      → Took (and_then from from') (and_then to to') c at before next after at'' next''
  then_took u =
      record { value = (t.value, u.value); read = on_ok _ t.read ∙ on_ok _ u.read; puts = written_append t.puts u.puts }

-- ---- Tables, one wholly before the next
module _ (t : Table) (ts : List Table) {c : List ℕ} {at : ℕ} where
  pub table_refused : {r : Refusal} → Stopped (by_column in_groups t.count t.items) c at r → Stopped (tables (by_column in_groups) (t ∷ ts)) c at r
  unfolding tables
  table_refused s = record { read = on_refused _ s.read }

  module _ {before middle : List ℕ} {next at' next' : ℕ}
      (one : Took (by_column in_groups t.count t.items) (by_row in_bytes t.count t.items) c at before next middle at' next') where
    pub tables_refused : {r : Refusal} → Stopped (tables (by_column in_groups) ts) c at' r → Stopped (tables (by_column in_groups) (t ∷ ts)) c at r
    unfolding tables
    tables_refused s = then_stopped (λ rows. tables (by_column in_groups) ts) (λ rows. tables (by_row in_bytes) ts) one s

    pub tables_took : {after : List ℕ} {at'' next'' : ℕ}
        → Took (tables (by_column in_groups) ts) (tables (by_row in_bytes) ts) c at' middle next' after at'' next''
        → Took (tables (by_column in_groups) (t ∷ ts)) (tables (by_row in_bytes) (t ∷ ts)) c at before next after at'' next''
    unfolding tables
    tables_took u = then_took (λ rows. tables (by_column in_groups) ts) (λ rows. tables (by_row in_bytes) ts) one u

-- none
no_tables : {c : List ℕ} {at : ℕ} {s : List ℕ} {next : ℕ} → length s ≤ 18446744073709551615 → next ≤ 18446744073709551615
    → Took (tables (by_column in_groups) []) (tables (by_row in_bytes) []) c at s next s at next
unfolding tables
no_tables {s = s} {next} h k = record { value = tt; read = refl; puts = written_none s next h k }

-- the last
pub last_took : (t : Table) {c before after : List ℕ} {at next at' next' : ℕ}
    → Took (by_column in_groups t.count t.items) (by_row in_bytes t.count t.items) c at before next after at' next'
    → Took (tables (by_column in_groups) (t ∷ [])) (tables (by_row in_bytes) (t ∷ [])) c at before next after at' next'
unfolding held
last_took t u = tables_took t [] u (no_tables (omega (arith, u.puts.fits, written_length u.puts)) (omega (arith, u.puts.place)))

-- ---- The four tables that a head announces
abbrev last_one : Announced → List Table
last_one a = parent_table a ∷ []

abbrev last_two : Announced → List Table
last_two a = witness_table a ∷ last_one a

abbrev last_three : Announced → List Table
last_three a = proof_table a ∷ last_two a

abbrev pub TookOne : Table → List ℕ → ℕ → List ℕ → ℕ → List ℕ → ℕ → ℕ → Type 0
TookOne t c at before next after at' next' =
    Took (by_column in_groups t.count t.items) (by_row in_bytes t.count t.items) c at before next after at' next'

abbrev pub StoppedOne : Table → List ℕ → ℕ → Refusal → Type 0
StoppedOne t c at r = Stopped (by_column in_groups t.count t.items) c at r

abbrev pub StoppedAll : List Table → List ℕ → ℕ → Refusal → Type 0
StoppedAll ts c at r = Stopped (tables (by_column in_groups) ts) c at r

module _ (a : Announced) {c : List ℕ} {at : ℕ} {r : Refusal} where
  pub first_refused : StoppedOne (proposition_table a) c at r → StoppedAll (announced_tables a) c at r
  first_refused x = table_refused (proposition_table a) (last_three a) x

  module _ {s t : List ℕ} {l m at2 : ℕ} (propositions : TookOne (proposition_table a) c at s l t at2 m) where
    pub second_refused : StoppedOne (proof_table a) c at2 r → StoppedAll (announced_tables a) c at r
    second_refused x = tables_refused (proposition_table a) (last_three a) propositions (table_refused (proof_table a) (last_two a) x)

    module _ {u : List ℕ} {n at3 : ℕ} (proofs : TookOne (proof_table a) c at2 t m u at3 n) where
      pub third_refused : StoppedOne (witness_table a) c at3 r → StoppedAll (announced_tables a) c at r
      third_refused x =
          tables_refused (proposition_table a) (last_three a) propositions
          (tables_refused (proof_table a) (last_two a) proofs (table_refused (witness_table a) (last_one a) x))

-- whatever the last of them answers
pub four_took : (a : Announced) (c : List ℕ) (at : ℕ) (s t u v p : Output) (at2 at3 at4 : ℕ) (b : Result ℕ code_refusal.Refusal)
    → TookOne (proposition_table a) c at s.bytes.now s.next t.bytes.now at2 t.next → TookOne (proof_table a) c at2 t.bytes.now t.next u.bytes.now at3 u.next
    → TookOne (witness_table a) c at3 u.bytes.now u.next v.bytes.now at4 v.next
    → TakesAs (by_column in_groups a.parents parent_items) (by_row in_bytes a.parents parent_items) c at4 v p b
    → TakesAs (tables (by_column in_groups) (announced_tables a)) (tables (by_row in_bytes) (announced_tables a)) c at s p b
four_took a c at s t u v p at2 at3 at4 (Ok n) propositions proofs witnesses parents =
    tables_took (proposition_table a) (last_three a) propositions
    (tables_took (proof_table a) (last_two a) proofs
    (tables_took (witness_table a) (last_one a) witnesses (last_took (parent_table a) parents)))
four_took a c at s t u v p at2 at3 at4 (Err r) propositions proofs witnesses parents =
    tables_refused (proposition_table a) (last_three a) propositions
    (tables_refused (proof_table a) (last_two a) proofs
    (tables_refused (witness_table a) (last_one a) witnesses (table_refused (parent_table a) [] parents)))

-- ---- The whole file
pub head_refused : {c : List ℕ} {r : Refusal} → Stopped (fields in_groups head_items) c 0 r → rebuilt c ≡ refused r
unfolding rebuilt rewritten whole
head_refused s = on_refused _ (on_refused _ (on_refused _ s.read))

module _ {c before middle : List ℕ} {a : Announced} {at next : ℕ} (head : HeadTook c before middle a at next) where
  layout_is : announced_tables a ≡ layout head.took.value
  unfolding layout_of zip_with
  layout_is =
      let schema : ℕ = schema_of head.took.value in
      ap (λ (width : ℕ). proposition_table a ∷ proof_table a ∷ record { count = a.witnesses; items = witness_items width } ∷ parent_table a ∷ [])
      head.announces.span
      ∙ ap (λ (counts : List ℕ). layout_of counts schema) (sym head.announces.counts)

  pub rest_refused : {r : Refusal} → Stopped (tables (by_column in_groups) (announced_tables a)) c at r → rebuilt c ≡ refused r
  unfolding rebuilt rewritten whole
  rest_refused {r} s =
      let all = then_stopped (λ h. tables (by_column in_groups) (layout h)) (λ h. tables (by_row in_bytes) (layout h)) head.took
      (subst (λ (ts : List Table). Stopped (tables (by_column in_groups) ts) c at r) layout_is s) in
      on_refused _ (on_refused _ all.read)

  module _ {after : List ℕ} {end len : ℕ}
      (rest : Took (tables (by_column in_groups) (announced_tables a)) (tables (by_row in_bytes) (announced_tables a)) c at middle next after end len) where
    all : Took column_form section_form c 0 before 0 after end len
    all =
        then_took (λ h. tables (by_column in_groups) (layout h)) (λ h. tables (by_row in_bytes) (layout h)) head.took
        (subst (λ (ts : List Table). Took (tables (by_column in_groups) ts) (tables (by_row in_bytes) ts) c at middle next after end len) layout_is rest)

    pub left_over : end < length c → rebuilt c ≡ refuse 76 end
    unfolding rebuilt rewritten whole
    left_over h =
        let n : length (drop end c) ≡ length c - end = length-drop end c in
        let e : length c - length (drop end c) ≡ end = omega arith in
        on_refused _ (on_ok _ all.read ∙ rw (ne_eqb (length (drop end c)) 0 (λ z. omega arith), e))

    pub whole_took : length c ≤ end → RebuiltTo c before after len
    unfolding rebuilt rewritten whole
    whole_took h =
        let n : length (drop end c) ≡ 0 = length-drop end c ∙ omega arith in
        record { section = section_form.put all.value; is = on_ok _ (on_ok _ all.read ∙ rw (eq-eqb (length (drop end c)) 0 n)); puts = all.puts }
