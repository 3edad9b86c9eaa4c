-- The head is a table of one record: its columns are its fields. Its counts and its schema stand where the first pass has noted their columns.
use Prim.Native.Nat.{ℕ, ◌+◌, ◌≤◌, ◌<◌}
use mathlib.Core.Path.{◌≡◌, refl, sym, ap, ◌∙◌}
use mathlib.Core.Bool.{Bool, true, false, cond}
use mathlib.Core.List.{List, [], ◌∷◌, zip, append-nil}
use native.Mathlib.Omega.{arith}
use lib.Dec.{leb}
use lib.ListN.{length, get_or, take, drop, length-drop}
use borrow.Author.Tests.{leb-true}
use Rattle.local_format.specs.Refusal.{Refusal}
use Rattle.local_format.specs.Out.{Out, ok, refused, refuse, ◌>>=◌}
use Rattle.local_format.specs.Field.{le, whole as there, cut, or_cut, field_at}
use Rattle.local_format.proofs.OutLaws.{never, ok_same}
use Rattle.local_format.proofs.FieldLaws.{field_ok, field_there, le_drop, le_take}
use Rattle.groups.specs.Groups.{Read, number_of}
use Rattle.evr0_section.specs.Head.{span_width}
use Rattle.evr0_columns.specs.Form.{each, get_many}
use Rattle.evr0_columns.specs.Layout.{Item, raw, whole, text, Of, Record, copied, in_bytes, in_groups, field, fields, by_row, by_column}
use Rattle.evr0_columns.specs.Columns.{head_items, Head, schema_of}
use Rattle.columns_rebuild.specs.Stand.{part, Stand}
use Rattle.columns_rebuild.specs.Took.{Took, Stopped}
use Rattle.columns_rebuild.specs.Maps.{Announces, HeadTook}
use Rattle.columns_rebuild.specs.declared.head.Announced.{Announced}
use Rattle.columns_rebuild.proofs.RowLaws.{column_field}

-- ---- One record, by column
abbrev listed : {A : Type 0} → Read A → Read (List A)
listed r = record { value = r.value ∷ []; rest = r.rest }

abbrev paired : {A B : Type 0} → Read A → Read B → Read (A × B)
paired a b = record { value = (a.value, b.value); rest = b.rest }

abbrev zipped : {A B : Type 0} → Read (List A × List B) → Read (List (A × B))
zipped t = record { value = zip t.value.0 t.value.1; rest = t.rest }

abbrev alone : {A : Type 0} → Out (Read A) → Out (Read (List A))
alone x = x >>= λ r. ok (listed r)

one_row : (items : List Item) (end : ℕ) (s : List ℕ) → (by_column in_groups 1 items).get end s ≡ alone ((fields in_groups items).get end s)
unfolding by_column fields get_many zip
one_row [] end s = refl
one_row (i ∷ items) end s = go ((field in_groups i).get end s) (one_row items end)
  where
    last : (a : Read (Of i)) (y : Out (Read (Record items)))
        → (alone y >>= (λ b. ok (paired (listed a) b)) >>= λ t. ok (zipped t)) ≡ alone (y >>= λ b. ok (paired a b))
    last a (ok b) = refl
    last a (refused r) = refl

    go : (x : Out (Read (Of i))) → ((t : List ℕ) → (by_column in_groups 1 items).get end t ≡ alone ((fields in_groups items).get end t))
        → (alone x >>= (λ a. (by_column in_groups 1 items).get end a.rest >>= λ b. ok (paired a b)) >>= λ t. ok (zipped t))
        ≡ alone (x >>= λ a. (fields in_groups items).get end a.rest >>= λ b. ok (paired a b))
    go (ok a) later = rw (later a.rest) (last a ((fields in_groups items).get end a.rest))
    go (refused r) later = refl

alone_ok : {A : Type 0} (x : Out (Read A)) {v : List A} {s : List ℕ} → alone x ≡ ok (record { value = v; rest = s })
    → (a : A) × (x ≡ ok (record { value = a; rest = s })) × (v ≡ a ∷ [])
alone_ok {A} (ok g) e =
    let all = ok_same e in (
      g.value,
      ap (λ (r : List ℕ). ok (record { value = g.value; rest = r })) (ap (λ (r : Read (List A)). r.rest) all),
      sym (ap (λ (r : Read (List A)). r.value) all),
    )
alone_ok (refused r) e = absurd (never e)

alone_refused : {A : Type 0} (x : Out (Read A)) {r : Refusal} → alone x ≡ refused r → x ≡ refused r
alone_refused (ok g) e = absurd (never (sym e))
alone_refused (refused q) e = cc

module _ {c : List ℕ} where
  pub head_stopped : {r : Refusal} → Stopped (by_column in_groups 1 head_items) c 0 r → Stopped (fields in_groups head_items) c 0 r
  head_stopped s = record { read = alone_refused _ (sym (one_row head_items (length c) c) ∙ s.read) }

  pub head_took : {before after starts : List ℕ} {a : Announced} {at next : ℕ}
      (t : Took (by_column in_groups 1 head_items) (by_row in_bytes 1 head_items) c 0 before 0 after at next) → Stand c head_items t.value starts
      → ((h : Head) → Stand c head_items (h ∷ []) starts → Announces h a) → HeadTook c before after a at next
  unfolding each
  head_took {before} {after} {starts} {next = next} t s f =
      let (h, read, one) = alone_ok ((fields in_groups head_items).get (length c) c) (sym (one_row head_items (length c) c) ∙ t.read) in
      let row = (fields in_bytes head_items).put in
      let puts = rw (one, append-nil (row h)) at t.puts in
      record { took = record { value = h; read = read; puts = puts }; announces = f h (rw one at s) }

-- ---- What it announces

-- the number of a whole number's field
abbrev value_of : (i : Item) → Of i → ℕ
value_of (raw n) v = 0
value_of (whole width) v = v
value_of text v = 0

-- a number is the one that stands there
abbrev Counts : List ℕ → ℕ → ℕ → Type 0
Counts c at r = (n : ℕ) (rest : List ℕ) → number_of 4 (length c) (drop at c) ≡ ok (record { value = n; rest = rest }) → r ≡ n

count_is : (c : List ℕ) (at r : ℕ) (i : Item) (g : Read (Of i)) → i ≡ whole 4 → (field in_groups i).get (length c) (drop at c) ≡ ok g → Counts c at r
    → r ≡ value_of i g.value
unfolding field in_groups
count_is c at r (raw n) g e f h = absurd (let z : ◌≡◌ {A = ℕ} 0 1 = cc in omega arith)
count_is c at r (whole width) g e f h =
    let w : width ≡ 4 = cc in
    h g.value g.rest (ap (λ (n : ℕ). number_of n (length c) (drop at c)) (sym w) ∙ f)
count_is c at r text g e f h = absurd (let z : ◌≡◌ {A = ℕ} 0 1 = cc in omega arith)

copied_there : (n end : ℕ) (s : List ℕ) (g : Read (List ℕ)) → (copied n).get end s ≡ ok g → (n ≤ length s) × (g.value ≡ take n s)
unfolding copied
copied_there n end s g e = go (leb n (length s)) refl e
  where
    go : (t : Bool) → leb n (length s) ≡ t → cond t (ok (record { value = take n s; rest = drop n s })) (refuse 76 end) ≡ ok g
        → (n ≤ length s) × (g.value ≡ take n s)
    go true h f = (leb-true n (length s) h, ap (λ (r : Read (List ℕ)). r.value) (sym (ok_same f)))
    go false h f = absurd (never f)

module _ {c : List ℕ} {h : Head} {starts : List ℕ} (s : Stand c head_items (h ∷ []) starts) where
  pub head_count : {r : ℕ} (k : ℕ) → k < 13 → get_or head_items k (raw 0) ≡ whole 4 → Counts c (get_or starts k 0) r
      → r ≡ value_of (get_or head_items k (raw 0)) (part head_items k h)
  head_count {r} k l i n =
      let (g, f, v, more) = column_field (s.column k l) in
      count_is c (get_or starts k 0) r (get_or head_items k (raw 0)) g i f n ∙ ap (value_of (get_or head_items k (raw 0))) v

  pub head_span : {width : ℕ} → (get_or starts 2 0 + 2 ≤ length c → width ≡ span_width (le 2 c (get_or starts 2 0))) → width ≡ span_width (schema_of h)
  unfolding field
  head_span w =
      let at = get_or starts 2 0 in
      let (g, f, v, more) = column_field (s.column 2 (omega arith)) in
      let (enough, is) = copied_there 2 (length c) (drop at c) g f in
      let k : at + 0 ≡ at = omega arith in
      let same : le 2 h.1.1.0 0 ≡ le 2 c at =
      ap (λ (b : List ℕ). le 2 b 0) (sym v ∙ is) ∙ le_take 2 (drop at c) 2 0 (omega arith) ∙ le_drop 2 c at 0 ∙ ap (le 2 c) k in
      w (omega (arith, length-drop at c)) ∙ ap span_width (sym same)

pub four_same : {a b c d a' b' c' d' : ℕ} → a ≡ a' → b ≡ b' → c ≡ c' → d ≡ d' → a' ∷ b' ∷ c' ∷ d' ∷ [] ≡ a ∷ b ∷ c ∷ d ∷ []
four_same e f g h = rw (e, f, g, h)

-- ---- The bytes of a span, by the schema
module _ (c : List ℕ) (at : ℕ) where
  pub span_is : {v n : ℕ} → there (record { value = v; next = n }) ≡ field_at 2 c at → v ≡ le 2 c at
  span_is e = (field_ok 0 2 c at (ap (or_cut 0 at) (sym e))).2

  pub span_cut : cut ≡ field_at 2 c at → at + 2 ≤ length c → ⊥
  span_cut e h = never (sym (ap (or_cut 0 at) (sym e)) ∙ field_there 0 2 c at h)
