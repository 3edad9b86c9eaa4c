-- The place of a record by its number: what the decoder refused, 62 where the table has no such entry, and otherwise where that entry
-- starts; by the lent tables for propositions and proofs, and by the payload's length for witnesses and parents.
use Prim.Native.Nat.{ℕ, ◌≤◌, ◌<◌}
use mathlib.Core.Path.{◌≡◌, refl, sym, ap, ◌∙◌}
use mathlib.Core.List.{List, []}
use native.Mathlib.Omega.{arith}
use lib.ListN.{length, get_or, length-map, get_or-append}
use Rattle.local_format.specs.Refusal.{Refusal}
use Rattle.local_format.specs.Out.{Out, ok, refused, refuse}
use Rattle.local_format.specs.Number.{numbered}
use Rattle.local_format.proofs.OutLaws.{never, ok_same, refused_same, bind_ok}
use Rattle.local_format.proofs.NumberLaws.{not_there_lem, is_there, there_map}
use Rattle.lent_table.specs.Lent.{lent}
use Rattle.derivation.specs.Rule.{Rule}
use Rattle.evr0_section.specs.Head.{Counts, Room}
use Rattle.evr0_section.specs.Rows.{Entry, starts_of}
use Rattle.evr0_section.specs.Section.{Section, section_at}
use Rattle.rule_table.specs.ByTable.{Given, rules_given, decode_by}
use Rattle.evr0.specs.Answer as answer
use Rattle.evr0.specs.Answer.{Lent, Filled, room_of, decode_given, answer_of}
use Rattle.evr0_read.specs.Asked.{AnswersBy}
use Rattle.evr0_read.specs.Ask.{place_by, place_told}
use Rattle.evr0_read.specs.Listing.{payload_to}
use Rattle.evr0_read.specs.Numbered.{Decoded, entry_number, Counted, Starts}

-- ---- The decoder's answer
pub answer_refused : (cursor : ℕ) (x : Out Section) {r : Refusal} → (answer_of cursor x).outcome ≡ refused r → x ≡ refused r
answer_refused cursor (ok d) e = absurd (never (sym e))
answer_refused cursor (refused q) e = ap refused (refused_same e)

-- the section that was accepted
pub answer_accepted : (cursor : ℕ) (x : Out Section) {a : answer.Accepted} → (answer_of cursor x).outcome ≡ ok a
    → (d : Section) × (x ≡ ok d) × ((answer_of cursor x).cursor ≡ d.cursor) × (a.schema ≡ d.tables.head.schema) × (a.counts ≡ d.tables.head.counts)
answer_accepted cursor (refused r) f = absurd (never f)
answer_accepted cursor (ok d) f =
    let e = sym (ok_same f) in (d, refl, refl, ap (λ (a : answer.Accepted). a.schema) e, ap (λ (a : answer.Accepted). a.counts) e)

-- ---- Entries of a table
-- a lent table has the start of an entry at its number
pub lent_start : {A : Type 0} (n k : ℕ) (es : List (Entry A)) {t : List ℕ} {e : Entry A} → t ≡ lent n (starts_of es) → k < length es
    → numbered k es ≡ ok e → get_or t k 0 ≡ e.start
lent_start n k es g l h =
    ap (λ (t : List ℕ). get_or t k 0) g ∙ get_or-append (starts_of es) _ 0 k (omega (arith, length-map es (λ e. e.start)))
    ∙ there_map (λ e. e.start) 0 es k h

-- ---- A section by some of the call's rules
pub by_given : (which : Given) (room : Room) (bytes : List ℕ) (cursor : ℕ) {d : Section} → decode_by which room bytes cursor ≡ ok d
    → (rules : List Rule) × (rules_given which ≡ ok rules) × (section_at rules room bytes cursor ≡ ok d)
unfolding decode_by
by_given which room bytes cursor is = bind_ok (rules_given which) _ is

module _ {E : Type 0} (table : Section → List (Entry E)) (k : ℕ) (which : Given) (bytes : List ℕ) (cursor : ℕ) (before : Lent) where
  abbrev x : Out Section
  x = decode_given which before bytes cursor

  -- the decoder's refusal
  pub gone : {after : Lent} {r : Refusal} → x ≡ refused r → Filled x before after
      → AnswersBy which (entry_number table k) place_told bytes cursor before after (refused r)
  gone e f = record { answer = rw e; tables = rw e (rw e at f) }

  module _ {d : Section} (is : x ≡ ok d) where
    decoded : Decoded bytes cursor d
    decoded = let (rules, given, read) = by_given which (room_of before) bytes cursor is in record { rules = rules; room = room_of before; is = read }

    -- no such record: the tables are cleared
    pub absent : {counts : Counts} {n : ℕ} → Counted table counts n → counts ≡ d.tables.head.counts → n ≤ k
        → {after : Lent} → after.propositions ≡ lent (length before.propositions) [] → after.proofs ≡ lent (length before.proofs) []
        → after.depths ≡ lent (length before.depths) []
        → AnswersBy which (entry_number table k) place_told bytes cursor before after (refuse 62 0)
    absent counted same few ps qs ds =
        let none = not_there_lem k (table d) (omega (arith, counted bytes cursor d decoded same)) in
        record { answer = rw (is, none); tables = rw (is, none) (record { propositions = ps; proofs = qs; depths = ds }) }

    -- the record is there: the tables are left as the decoder left them
    pub present : {schema end start len : ℕ} {counts : Counts} {n : ℕ} → Counted table counts n → schema ≡ d.tables.head.schema → end ≡ d.cursor
        → counts ≡ d.tables.head.counts → k < n → {after : Lent} → Filled x before after → {q : List ℕ} → q ≡ payload_to bytes cursor end
        → len ≡ length q → Starts table k len schema counts after.propositions after.proofs start
        → AnswersBy which (entry_number table k) place_told bytes cursor before after (ok (place_by schema end counts start))
    present counted schema end counts some {after} filled payload long starts =
        let enough : k < length (table d) = omega (arith, counted bytes cursor d decoded counts) in
        let (e, there) = is_there k (table d) enough in
        let f : Filled (ok d) before after = rw is at filled in
        let at = starts bytes cursor d decoded (long ∙ ap length (payload ∙ ap (payload_to bytes cursor) end)) schema counts _ _ f.propositions f.proofs
        enough e there in
        record { answer = rw (is, there, schema, end, counts, at); tables = rw (is, there) f }
