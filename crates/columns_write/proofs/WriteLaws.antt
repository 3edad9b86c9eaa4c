-- From what the decoder leaves to what writing leaves: a refusal stays one, and an accepted section has columns, which are written or are too long.
use Prim.Native.Nat.{ℕ}
use mathlib.Core.Path.{◌≡◌, refl, sym, ◌∙◌}
use mathlib.Core.List.{List, []}
use lib.ListN.{length}
use Rattle.local_format.specs.Refusal.{Refusal}
use Rattle.local_format.specs.Out.{Out, ok, refused}
use Rattle.local_format.proofs.OutLaws.{on_ok, bind_ok}
use Rattle.lent_table.specs.Lent.{lent}
use Rattle.evr0_section.specs.Section.{Section}
use Rattle.rule_table.specs.ByTable.{Given, rules_given, decode_by}
use Rattle.evr0_columns.specs.Columns.{columns_of, section_bytes, written}
use Rattle.evr0_columns.proofs.RoundTrips.{has_columns, written_refused}
use Rattle.evr0.specs.Answer as decoder
use Rattle.evr0.specs.Answer.{Accepted, Answer, room_of, decode_given, LeavesBy}
use Rattle.columns_answer.specs.Copies.{Lent, with_output, Copies, Writes}
use Rattle.columns_answer.proofs.AnswerLaws.{Answered, answered_ok, answered_refused}
use Rattle.columns_write.specs.Ready.{Full, fitted}
use Rattle.columns_write.proofs.CopyLaws.{SameLengths, filled_by, copies_by}

module _ (which : Given) (bytes : List ℕ) (cursor : ℕ) (before : Lent) {left : decoder.Lent} {answer : Answer}
    (leaves : LeavesBy which bytes cursor before.tables left answer) where
  abbrev x : Out Section
  x = decode_given which before.tables bytes cursor

  abbrev out : ℕ
  out = length before.output

  -- ---- A refusal
  pub refused_writes : {r : Refusal} {cleared : List ℕ} → answer.outcome ≡ refused r → cleared ≡ lent out []
      → Writes which bytes cursor before (with_output left cleared) (refused r)
  refused_writes {r} e h =
      let is : x ≡ refused r = answered_refused cursor x leaves.answer e in
      rw (written_refused which (room_of before.tables) out bytes cursor r is)
      (record { answer = refl; output = h; tables = rw is at leaves.tables })

  -- ---- An accepted section
  module _ (same : SameLengths (with_output left before.output) before) {a : Accepted} (e : answer.outcome ≡ ok a) where
    told : Answered x answer.cursor a
    told = answered_ok cursor x leaves.answer e

    pub full : Full bytes cursor answer.cursor a.counts a.schema left
    unfolding decode_by
    full =
        let (rules, ruled, decoded) = bind_ok (rules_given which) _ told.is in
        record {
          rules = rules;
          room = room_of before.tables;
          section = told.section;
          decoded = decoded;
          ends = told.ends;
          counted = told.counted;
          schema_is = told.schema_is;
          filled = filled_by (sym same.propositions) (sym same.proofs) (sym same.depths) (rw told.is at leaves.tables);
        }

    written_is : (columns : List ℕ) → columns_of (section_bytes bytes cursor told.section.cursor) ≡ ok columns
        → written which (room_of before.tables) out bytes cursor ≡ fitted out told.section columns
    unfolding written
    written_is columns f = on_ok _ told.is ∙ on_ok _ f

    pub accepted_writes : {after : Lent} {given : Out ℕ}
        → ((f : Full bytes cursor answer.cursor a.counts a.schema left) (columns : List ℕ)
        → columns_of (section_bytes bytes cursor answer.cursor) ≡ ok columns
        → Copies (fitted out f.section columns) (with_output left before.output) after given)
        → Writes which bytes cursor before after given
    unfolding full
    accepted_writes h =
        let (columns, f) = has_columns which (room_of before.tables) bytes cursor told.section told.is in
        let g : columns_of (section_bytes bytes cursor answer.cursor) ≡ ok columns = rw told.ends at f in
        rw (written_is columns f) (copies_by same (h full columns g))
