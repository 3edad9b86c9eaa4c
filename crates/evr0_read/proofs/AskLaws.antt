-- What is told of a record whose place was found: a refusal is handed on, and the record read at that place is the one with the number.
use Prim.Native.Nat.{ℕ}
use mathlib.Core.Path.{◌≡◌, sym, ap, ◌∙◌}
use mathlib.Core.List.{List}
use Rattle.local_format.specs.Refusal.{Refusal}
use Rattle.local_format.specs.Out.{Out, ok, refused}
use Rattle.local_format.specs.Number.{numbered, Chosen, choose}
use Rattle.local_format.proofs.OutLaws.{never, ok_same, refused_same, bind_ok}
use Rattle.derivation.specs.Rule.{Rule}
use Rattle.evr0_section.specs.Rows.{Entry}
use Rattle.evr0_section.specs.Section.{Section, section_at, decode_section}
use Rattle.rule_table.specs.ByTable.{Given, four, rules_given, decode_by}
use Rattle.evr0.specs.Answer.{Lent, room_of, decode_given}
use Rattle.evr0_read.specs.Asked.{telling, Asks, Answers, AnswersBy}
use Rattle.evr0_read.specs.Ask.{Place, place_by, place_told}
use Rattle.evr0_read.specs.Listing.{payload_to}
use Rattle.evr0_read.specs.Numbered.{Decoded, Reads, shown_told}
use Rattle.evr0_read.proofs.FindLaws.{by_given}

-- a refusal
module _ {E : Type 0} {ask : Out Section → Out (Chosen Section (Entry E))} {x : Out Section} {before after : Lent} {found : Out Place}
    (finding : Asks ask place_told x before after found) {A B : Type 0} (f : Chosen Section (Entry E) → A) (give : Out A → B) {r : Refusal} where
  same : (y : Out (Chosen Section (Entry E))) → refused r ≡ place_told y → refused r ≡ telling f y
  same (ok c) e = absurd (never e)
  same (refused q) e = ap refused (refused_same e)

  pub handed : found ≡ refused r → Asks ask (λ y. give (telling f y)) x before after (give (refused r))
  handed e = record { answer = ap give (same (ask x) (sym e ∙ finding.answer)); tables = finding.tables }

-- a place
module _ {E : Type 0} (table : Section → List (Entry E)) (k : ℕ) (which : Given) (bytes : List ℕ) (cursor : ℕ) {before after : Lent}
    {found : Out Place} (finding : AnswersBy which (choose (λ s. numbered k (table s))) place_told bytes cursor before after found) where
  abbrev ask : Out Section → Out (Chosen Section (Entry E))
  ask = choose (λ s. numbered k (table s))

  pub record There (place : Place) : Type 0 where
    pub section : Section
    pub entry : Entry E
    pub rules : List Rule
    pub given : rules_given which ≡ ok rules
    pub is : section_at rules (room_of before) bytes cursor ≡ ok section
    pub at : numbered k (table section) ≡ ok entry
    pub asked : ask (decode_given which before bytes cursor) ≡ ok (record { decoded = section; value = entry })
    pub by : place ≡ place_by section.tables.head.schema section.cursor section.tables.head.counts entry.start

  pub there : {place : Place} → found ≡ ok place → There place
  there e =
      let (c, asked, by) = bind_ok (ask (decode_given which before bytes cursor)) _ (sym finding.answer ∙ e) in
      let (d, is, rest) = bind_ok (decode_given which before bytes cursor) _ asked in
      let (rules, given, read) = by_given which (room_of before) bytes cursor is in
      let (entry, at, same) = bind_ok (numbered k (table d)) _ rest in
      record {
        section = d;
        entry = entry;
        rules = rules;
        given = given;
        is = read;
        at = at;
        asked = asked ∙ sym same;
        by = sym (ok_same by)
            ∙ ap (λ (c : Chosen Section (Entry E)).
            place_by c.decoded.tables.head.schema c.decoded.cursor c.decoded.tables.head.counts c.value.start) (sym (ok_same same));
      }

  -- the record at the place, read by the section's schema
  pub read_there : {A : Type 0} (show : ℕ → E → A) {place : Place} → found ≡ ok place → {q : List ℕ} → q ≡ payload_to bytes cursor place.end
      → {r : Out (Entry A)} → Reads table show q place.schema place.start r
      → AnswersBy which ask (shown_told show) bytes cursor before after r
  read_there show e payload reads =
      let t = there e in
      let decoded : Decoded bytes cursor t.section = record { rules = t.rules; room = room_of before; is = t.is } in
      record {
        answer = reads bytes cursor t.section decoded (payload ∙ ap (λ (p : Place). payload_to bytes cursor p.end) t.by)
            (ap (λ (p : Place). p.schema) t.by) k t.entry t.at (ap (λ (p : Place). p.start) t.by)
            ∙ sym (ap (shown_told show) t.asked);
        tables = finding.tables;
      }

-- ---- By the four, which `decode_section` goes by
pub by_four : {E B : Type 0} {asked : Out Section → Out (Chosen Section E)} {tell : Out (Chosen Section E) → B} (bytes : List ℕ) (cursor : ℕ)
    {before after : Lent} {r : B} → AnswersBy four asked tell bytes cursor before after r → Answers asked tell bytes cursor before after r
unfolding decode_section decode_by
by_four bytes cursor a = a
