-- In an accepted section each record is what its fields read, with nothing between and nothing left over: the decoder's steps, one by one.
use Prim.Native.Nat.{ℕ, zero, suc, ◌+◌, ◌≤◌}
use mathlib.Core.Path.{◌≡◌, refl, sym, ap, ◌∙◌}
use mathlib.Core.Bool.{not, ◌&&◌}
use mathlib.Core.List.{List, [], ◌∷◌}
use native.Mathlib.Omega.{arith}
use lib.Dec.{eqb, leb}
use lib.ListN.{length, drop, length-drop}
use lib.Seq.{drop-drop, drop-length}
use borrow.Author.Tests.{le-leb}
use Rattle.local_format.specs.Out.{Out, ok, moved, ◌>>=◌}
use Rattle.local_format.specs.Field.{Got, le}
use Rattle.utf8.specs.Utf8.{decode, any_control}
use Rattle.local_format.specs.Text.{Span, or_ill, bytes_at, section_field, text_at}
use Rattle.local_format.proofs.OutLaws.{ok_same, on_ok, bind_ok, then_ok, checked_ok, moved_ok}
use Rattle.local_format.proofs.FieldLaws.{field_ok, le_drop, le_take}
use Rattle.local_format.proofs.Each.{each_ok}
use Rattle.evr0_section.specs.Rows.{Sized, Row, Rows, rows, starts_of}
use Rattle.evr0_section.specs.Head as head
use Rattle.evr0_section.specs.Head.{Counts, Digest, digest_at, Counted, counts_at, is_schema, span_width, head_of, listed}
use Rattle.derivation.specs.Rule.{Rule}
use Rattle.evr0_section.specs.Proposition.{Proposition, proposition_of, Before, key_of, rises, proposition_row}
use Rattle.evr0_section.specs.Proof.{ProofRecord, zeros_at, proof_of, Unowned, Settled, check_proof, proof_row}
use Rattle.evr0_section.specs.Witness.{WitnessRecord, witness_of, check_witness, witness_row, parent_row}
use Rattle.evr0_section.specs.Section as section
use Rattle.evr0_section.proofs.CheckedTables.{steps}
use Rattle.evr0_section.proofs.Inside.{Inside, proposition_row_in, proof_row_in, witness_row_in, parent_row_in}
use Rattle.evr0_section.proofs.SectionWithin.{head_end}
use Rattle.evr0_columns.specs.Form.{Form, get_many}
use Rattle.evr0_columns.specs.Layout.{Item, raw, whole, text, Of, copied, in_bytes, Record, wholes, field, fields, by_row, Table, Tables, tables}
use Rattle.evr0_columns.specs.Columns.{count_items, payload_items, proposition_items, proof_items, witness_items, parent_items}
use Rattle.evr0_columns.specs.Columns.{layout_of}

-- a step of what was read, and the rest
step : {A B P : Type 0} (x : Out A) (f : A → Out B) {b : B} → (x >>= f) ≡ ok b → ((a : A) → x ≡ ok a → f a ≡ ok b → P) → P
step x f e rest = let a = bind_ok x f e in rest a.0 a.1 a.2

module _ (end : ℕ) (s : List ℕ) where
  -- from one place of s up to another the form reads this value
  abbrev pub Reads : {A : Type 0} → Form A → ℕ → A → ℕ → Type 0
  Reads form at v next = form.get end (drop at s) ≡ ok (record { value = v; rest = drop next s })

  pub copied_reads : (n at : ℕ) → at + n ≤ length s → Reads (copied n) at (bytes_at s at n) (at + n)
  unfolding copied
  copied_reads n at h = rw (le-leb n (length (drop at s)) (omega (arith, length-drop at s)), drop-drop n at s)

  bytes_reads : (n at : ℕ) {g : Got} → section_field n s at ≡ ok g → Reads (copied n) at (bytes_at s at n) g.next
  bytes_reads n at {g} e = let x = field_ok 5 n s at e in rw x.0 (copied_reads n at x.1)

  number_reads : (width at : ℕ) {g : Got} → section_field width s at ≡ ok g → Reads (in_bytes width) at g.value g.next
  unfolding in_bytes
  number_reads width at {g} e =
      let x = field_ok 5 width s at e in
      let k : at + 0 ≡ at = omega arith in
      let v : le width (bytes_at s at width) 0 ≡ g.value = le_take width (drop at s) width 0 (omega arith) ∙ le_drop width s at 0 ∙ rw k (sym x.2) in
      on_ok _ (bytes_reads width at e) ∙ ap (λ (n : ℕ). ok (record { value = n; rest = drop g.next s })) v

  -- ---- Fields
  pub record FieldReads (i : Item) (at : ℕ) (v : Of i) (next : ℕ) : Type 0 where
    pub is : Reads (field in_bytes i) at v next

  raw_is : {n at : ℕ} {g : Got} → section_field n s at ≡ ok g → FieldReads (raw n) at (bytes_at s at n) g.next
  unfolding field
  raw_is {n} {at} e = record { is = bytes_reads n at e }

  whole_is : {width at : ℕ} {g : Got} → section_field width s at ≡ ok g → FieldReads (whole width) at g.value g.next
  unfolding field
  whole_is {width} {at} e = record { is = number_reads width at e }

  text_is : {at : ℕ} {t : Span} → text_at s at ≡ ok t → FieldReads text at (bytes_at s t.start t.len) t.next
  unfolding text_at field
  text_is {at} {t} e =
      step (section_field 2 s at) _ e λ size f e1.
      let (c, e2) = checked_ok (leb 1 size.value && leb size.value 4096) 6 size.next _ e1 in
      step (section_field size.value s size.next) _ e2 λ body g e3.
      step (or_ill 7 body.next (decode (bytes_at s size.next size.value))) _ e3 λ cs d e4.
      let (m, e5) = checked_ok (not (any_control cs)) 8 body.next _ e4 in
      rw (← ok_same e5) (record { is = on_ok _ (on_ok _ (number_reads 2 at f) ∙ on_ok _ (bytes_reads size.value size.next g)) })

  zeros_is : {at n : ℕ} → zeros_at s at ≡ ok n → FieldReads (raw 3) at (bytes_at s at 3) n
  unfolding zeros_at
  zeros_is {at} e =
      let (g, f, e1) = bind_ok (section_field 3 s at) _ e in
      let (z, e2) = checked_ok (eqb g.value 0) 9 g.next _ e1 in
      rw (← ok_same e2) (raw_is f)

  digest_is : {at : ℕ} {d : Digest} → digest_at s at ≡ ok d → FieldReads (raw 32) at (bytes_at s at 32) d.next
  unfolding digest_at
  digest_is {at} e =
      let (g, f, e1) = bind_ok (section_field 32 s at) _ e in
      rw (← ok_same e1) (raw_is f)

  -- ---- Records
  pub record RecordReads (is : List Item) (at : ℕ) (r : Record is) (next : ℕ) : Type 0 where
    pub all : Reads (fields in_bytes is) at r next

  none : {at : ℕ} → RecordReads [] at tt at
  unfolding fields
  none = record { all = refl }

  infixr 5 ◌then◌
  ◌then◌ : {i : Item} {is : List Item} {at k next : ℕ} {v : Of i} {r : Record is} → FieldReads i at v k → RecordReads is k r next
      → RecordReads (i ∷ is) at (v, r) next
  unfolding fields
  ◌then◌ e f = record { all = on_ok _ e.is ∙ on_ok _ f.all }

  -- some record is read from the front up to a place
  abbrev pub Front : List Item → ℕ → Type 0
  Front is next = (r : Record is) × RecordReads is 0 r next

  proposition_read : (x : Sized Proposition) → proposition_of s ≡ ok x → Front proposition_items x.size
  unfolding proposition_of
  proposition_read x e =
      step (text_at s 0) _ e λ kind f1 e1.
      step (section_field 4 s kind.next) _ e1 λ owner f2 e2.
      step (section_field 4 s owner.next) _ e2 λ scope f3 e3.
      step (section_field 4 s scope.next) _ e3 λ type f4 e4.
      rw (← ok_same e4) (_, text_is f1 then whole_is f2 then whole_is f3 then whole_is f4 then none)

  proof_read : (x : Sized ProofRecord) → proof_of s ≡ ok x → Front proof_items x.size
  unfolding proof_of
  proof_read x e =
      step (section_field 4 s 0) _ e λ number f1 e1.
      step (section_field 4 s number.next) _ e1 λ proposition f2 e2.
      step (text_at s proposition.next) _ e2 λ rule f3 e3.
      step (section_field 4 s rule.next) _ e3 λ authority f4 e4.
      step (section_field 4 s authority.next) _ e4 λ first_witness f5 e5.
      step (section_field 4 s first_witness.next) _ e5 λ witness_count f6 e6.
      step (section_field 4 s witness_count.next) _ e6 λ first_parent f7 e7.
      step (section_field 4 s first_parent.next) _ e7 λ parent_count f8 e8.
      step (section_field 1 s parent_count.next) _ e8 λ operation f9 e9.
      step (zeros_at s operation.next) _ e9 λ next f10 e10.
      rw (← ok_same e10) (
        _,
        whole_is f1 then whole_is f2 then text_is f3 then whole_is f4 then whole_is f5 then whole_is f6 then whole_is f7 then whole_is f8 then
            raw_is f9 then zeros_is f10 then none,
      )

  witness_read : (width : ℕ) (x : Sized WitnessRecord) → witness_of width s ≡ ok x → Front (witness_items width) x.size
  unfolding witness_of
  witness_read width x e =
      step (section_field 4 s 0) _ e λ number f1 e1.
      step (section_field 4 s number.next) _ e1 λ proposition f2 e2.
      step (section_field 1 s proposition.next) _ e2 λ polarity f3 e3.
      step (zeros_at s polarity.next) _ e3 λ zeros f4 e4.
      step (digest_at s zeros) _ e4 λ file f5 e5.
      step (section_field width s file.next) _ e5 λ start f6 e6.
      step (section_field width s start.next) _ e6 λ end f7 e7.
      step (digest_at s end.next) _ e7 λ origin f8 e8.
      rw (← ok_same e8)
      (_, whole_is f1 then whole_is f2 then raw_is f3 then zeros_is f4 then digest_is f5 then whole_is f6 then whole_is f7 then digest_is f8 then none)

  -- ---- Rows of the tables
  proposition_row_lem : (before : Before) (r : Row Proposition Before) → proposition_row before s ≡ ok r → Front proposition_items r.size
  unfolding proposition_row
  proposition_row_lem before r e =
      step (proposition_of s) _ e λ x f e1.
      let (c, e2) = checked_ok (rises before (key_of s x.item)) 16 0 _ e1 in
      rw (← ok_same e2) (proposition_read x f)

  proof_row_lem : (rules : List Rule) (counts : Counts) (u : Unowned) (r : Row Settled Unowned) → proof_row rules counts u s ≡ ok r
      → Front proof_items r.size
  unfolding proof_row
  proof_row_lem rules counts u r e =
      step (proof_of s) _ e λ x f e1.
      step (check_proof rules counts u (bytes_at s x.item.rule.start x.item.rule.len) x.item) _ e1 λ rule g e2.
      rw (← ok_same e2) (proof_read x f)

  witness_row_lem : (width : ℕ) (counts : Counts) (w : ℕ) (r : Row WitnessRecord ℕ) → witness_row width counts w s ≡ ok r
      → Front (witness_items width) r.size
  unfolding witness_row
  witness_row_lem width counts w r e =
      step (witness_of width s) _ e λ x f e1.
      let (u, c, e2) = then_ok (check_witness counts w x.item) _ e1 in
      rw (← ok_same e2) (witness_read width x f)

  parent_row_lem : (u : Unit {0}) (r : Row ℕ (Unit {0})) → parent_row u s ≡ ok r → Front parent_items r.size
  unfolding parent_row
  parent_row_lem u r e =
      step (section_field 4 s 0) _ e λ g f e1.
      rw (← ok_same e1) (_, whole_is f then none)

  -- ---- The head of a payload
  pub record CountsRead (at : ℕ) (c : Counted) : Type 0 where
    pub values : Record count_items
    pub counts : wholes count_items values ≡ listed c.counts
    pub all : RecordReads count_items at values c.next

  counts_read : {at : ℕ} (c : Counted) → counts_at s at ≡ ok c → CountsRead at c
  unfolding counts_at
  counts_read {at} c e =
      step (section_field 4 s at) _ e λ propositions f1 e1.
      step (section_field 4 s propositions.next) _ e1 λ proofs f2 e2.
      step (section_field 4 s proofs.next) _ e2 λ witnesses f3 e3.
      step (section_field 4 s witnesses.next) _ e3 λ parents f4 e4.
      rw (← ok_same e4) (record { values = _; counts = refl; all = whole_is f1 then whole_is f2 then whole_is f3 then whole_is f4 then none })

  pub record HeadRead (h : head.Head) : Type 0 where
    pub values : Record payload_items
    pub schema : le 2 values.0 0 ≡ h.schema
    pub counts : wholes payload_items values ≡ listed h.counts
    pub all : RecordReads payload_items 0 values h.next

  pub head_read : (h : head.Head) → head_of s ≡ ok h → HeadRead h
  unfolding head_of
  head_read h e =
      step (section_field 2 s 0) _ e λ schema f1 e1.
      let (c1, e2) = checked_ok (is_schema schema.value) 10 schema.next _ e1 in
      step (section_field 2 s schema.next) _ e2 λ flags f2 e3.
      let (c2, e4) = checked_ok (eqb flags.value 0) 11 flags.next _ e3 in
      step (digest_at s flags.next) _ e4 λ source_set f3 e5.
      step (digest_at s source_set.next) _ e5 λ compiler_contract f4 e6.
      step (section_field 2 s compiler_contract.next) _ e6 λ epoch f5 e7.
      step (text_at s epoch.next) _ e7 λ policy f6 e8.
      step (text_at s policy.next) _ e8 λ issuer f7 e9.
      step (counts_at s issuer.next) _ e9 λ counted f8 e10.
      let c = counts_read counted f8 in
      rw (← ok_same e10)
      (record {
        values = _;
        schema = le_take 2 s 2 0 (omega arith) ∙ sym (field_ok 5 2 s 0 f1).2;
        counts = c.counts;
        all = raw_is f1 then raw_is f2 then digest_is f3 then digest_is f4 then raw_is f5 then text_is f6 then text_is f7 then c.all;
      })

-- ---- A table

-- records that stand at some places of p
pub data EachAt (end : ℕ) (p : List ℕ) (is : List Item) : List ℕ → List (Record is) → Type 0 where
  no_more : EachAt end p is [] []
  and_more : {at : ℕ} {places : List ℕ} {r : Record is} {rs : List (Record is)} (next : ℕ) → at ≤ length p → Reads end p (fields in_bytes is) at r next
      → EachAt end p is places rs → EachAt end p is (at ∷ places) (r ∷ rs)

-- the rows of a table are read one after the other, and each stands at its start
pub record RowsRead {A S : Type 0} (end : ℕ) (p : List ℕ) (is : List Item) (n at : ℕ) (t : Rows A S) : Type 0 where
  pub values : List (Record is)
  pub reads : Reads end p (by_row in_bytes n is) at values t.next
  pub stand : EachAt end p is (starts_of t.entries) values
  pub inside : t.next ≤ length p

module _ (end : ℕ) (p : List ℕ) {A S : Type 0} (row : S → List ℕ → Out (Row A S)) (row_in : (s : List ℕ) (u : S) → Inside s (row u s)) (is : List Item)
    (read : (u : S) (s : List ℕ) (r : Row A S) → row u s ≡ ok r → Front end s is r.size) where
  rows_read : (n at : ℕ) (u : S) (t : Rows A S) → at ≤ length p → rows row n u p at ≡ ok t → RowsRead end p is n at t
  unfolding rows get_many
  rows_read zero at u t h e = rw (← ok_same e) (record { values = []; reads = refl; stand = no_more; inside = h })
  rows_read (suc n) at u t h e =
      let later = rows_read n in
      step (moved at (row u (drop at p))) _ e λ x f e1.
      step (rows row n x.state p (at + x.size)) _ e1 λ w g e2.
      let m = moved_ok at _ f in
      let (r, k) = read u (drop at p) x m in
      let l = later (at + x.size) x.state w (omega (arith, each_ok (row_in (drop at p) u) m, length-drop at p)) g in
      let q = rw (drop-drop x.size at p) at k.all in
      rw (← ok_same e2)
      (record { values = r ∷ l.values; reads = on_ok _ q ∙ on_ok _ l.reads; stand = and_more (at + x.size) h q l.stand; inside = l.inside })

-- ---- The tables of a payload, after its head

-- each table's records stand at their starts
abbrev pub StandAll : ℕ → List ℕ → (ts : List Table) → List (List ℕ) → Tables ts → Type 0
StandAll end p [] starts v = Unit {0}
StandAll end p (t ∷ ts) [] v = ⊥
StandAll end p (t ∷ ts) (s ∷ starts) v = EachAt end p t.items s v.0 × StandAll end p ts starts v.1

abbrev pub starts_in : section.Tables → List (List ℕ)
starts_in t =
    starts_of t.propositions.entries ∷ starts_of t.proofs.entries ∷ starts_of t.witnesses.entries ∷ starts_of t.parents.entries ∷ []

-- these tables are all that is left from a place on
pub record TablesRead (end : ℕ) (p : List ℕ) (at : ℕ) (starts : List (List ℕ)) (ts : List Table) : Type 0 where
  pub values : Tables ts
  pub reads : (tables (by_row in_bytes) ts).get end (drop at p) ≡ ok (record { value = values; rest = [] })
  pub stand : StandAll end p ts starts values

pub tables_read : (end : ℕ) (rules : List Rule) (room : head.Room) (p : List ℕ) (t : section.Tables) → section.tables_of rules room p ≡ ok t
    → TablesRead end p t.head.next (starts_in t) (layout_of (listed t.head.counts) t.head.schema)
unfolding layout_of tables
tables_read end rules room p t read =
    let st = steps rules room p t read in
    let counts = t.head.counts in
    let width = span_width t.head.schema in
    let a = rows_read end p proposition_row (λ s. proposition_row_in s) proposition_items (λ u s. proposition_row_lem end s u) _ _ _ _ (head_end p st.head).0
    st.propositions in
    let b = rows_read end p (proof_row rules counts) (λ s. proof_row_in s rules counts) proof_items (λ u s. proof_row_lem end s rules counts u) _ _ _ _
    a.inside st.proofs in
    let c = rows_read end p (witness_row width counts) (λ s. witness_row_in s width counts) (witness_items width)
    (λ u s. witness_row_lem end s width counts u) _ _ _ _ b.inside st.witnesses in
    let d = rows_read end p parent_row (λ s. parent_row_in s) parent_items (λ u s. parent_row_lem end s u) _ _ _ _ c.inside st.parents in
    let all : drop t.parents.next p ≡ [] = rw st.whole (drop-length p) in
    record {
      values = (a.values, (b.values, (c.values, (d.values, tt))));
      reads = on_ok _ a.reads ∙ on_ok _ (on_ok _ b.reads ∙ on_ok _ (on_ok _ c.reads ∙ on_ok _ (on_ok _ d.reads ∙ rw all)));
      stand = (a.stand, (b.stand, (c.stand, (d.stand, tt))));
    }
