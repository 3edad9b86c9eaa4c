-- What the decoder with marks leaves where it is lent as many starts of propositions as there are flags, and what becomes of it once the rest
-- of the starts is cleared and the flags are set: those of the section's propositions.
use Prim.Native.Nat.{ℕ, ◌-◌, ◌≤◌, min}
use mathlib.Core.Path.{◌≡◌, refl, sym, ap, ap₂, ◌∙◌}
use mathlib.Core.Bool.{Bool, true, false}
use mathlib.Core.List.{List, [], ◌++◌, map}
use native.Mathlib.Omega.{arith}
use lib.ListN.{length, take, drop, replicate, length-append, length-map}
use lib.Seq.{length-take-le}
use Rattle.local_format.specs.Refusal.{Refusal}
use Rattle.local_format.specs.Out.{Out, ok, refused}
use Rattle.lent_table.specs.Lent.{lent, Front}
use Rattle.derivation.specs.Section as derivation
use Rattle.derivation.specs.Section.{Checked, proof_total}
use Rattle.derivation.specs.Friendly.{authorised}
use Rattle.derivation.proofs.Friendly as friendly
use Rattle.evr0_section.specs.Head.{Counts, Room}
use Rattle.evr0_section.specs.Rows.{starts_of}
use Rattle.evr0_section.specs.Section.{Section, section_of}
use Rattle.evr0_section.specs.Marks.{marks_of}
use Rattle.evr0_section.proofs.SectionSteps.{section_parts}
use Rattle.evr0_section.proofs.Demand.{checked}
use Rattle.evr0_pass.specs.View.{Layout, proof_view, view}
use Rattle.rule_table.specs.ByTable.{Given, decode_by}
use Rattle.evr0.specs.Answer as unmarked
use Rattle.evr0.specs.Answer.{Answer, answer_of, lent_of, proposition_starts, proof_starts, proof_depths}
use Rattle.evr0_read.proofs.TableLaws.{facts}
use Rattle.evr0_read.proofs.FindLaws.{answer_refused}
use Rattle.evr0_marks.specs.Answer as marked
use Rattle.evr0_marks.specs.Answer.{with_marks, proof_marks, LeavesBy}
use Rattle.evr0_marks.specs.Steps.{DueOf}
use Rattle.evr0_marks.proofs.LeavesLaws.{cut_filled}
use Rattle.evr0_authorised.proofs.OperatesLaws.{operates_front}
use Rattle.evr0_authorised.proofs.AuthorisedLaws as asked
use Rattle.authorised_table.specs.Answer.{Lent, with_authorised, room_of, flags_of, proposition_flags, decode_given, TellsBy}
use Rattle.authorised_table.specs.Steps.{flagged_by}
use Rattle.authorised_table.proofs.FlagLaws.{flags_are}

-- ---- The flags of a section that was decoded
module _ {schema : ℕ} {bytes : List ℕ} {cursor end : ℕ} {counts : Counts} {proofs held : List ℕ}
    (of : DueOf schema bytes cursor end counts proofs held) where
  abbrev s : derivation.Section
  s = section_of of.due.section.tables

  checks : Checked s
  checks =
      checked of.due.rules of.due.room bytes cursor of.due.shaped of.due.section.tables
      (section_parts of.due.rules of.due.room bytes cursor of.due.section of.due.decoded).tables

  -- a number past the table is no authorised proposition's
  none_past : (n : ℕ) → of.due.section.tables.head.counts.propositions ≤ n → authorised s n ≡ false
  unfolding section_of
  none_past n h = go (authorised s n) refl
    where
      go : (b : Bool) → authorised s n ≡ b → b ≡ false
      go false e = refl
      go true e =
          let r = friendly.fewer s n e in
          absurd (omega (arith, checks.proof_proposition r.0 r.1, r.2))

  pub flags_filled : (p starts : List ℕ) (layout : Layout) → view of.due.rules p starts layout ≡ s → {entries : ℕ} {flags : List ℕ} (marks zeros : List ℕ)
      → Front (marks_of of.due.section) marks → counts.propositions ≤ entries → zeros ≡ lent entries []
      → flags ≡ flagged_by (map (proof_view of.due.rules p) starts) marks zeros → flags ≡ lent entries (flags_of of.due.section)
  unfolding authorised proof_total
  flags_filled p starts layout viewed {entries} marks zeros begins fits z e =
      e
      ∙ ap₂ (λ (ps : List derivation.Proof) (flags : List ℕ). flagged_by ps marks flags) (asked.proofs_are of p starts layout viewed) z
      ∙ flags_are s marks of.due.section.tables.head.counts.propositions entries
      (omega (arith, fits, ap (λ (c : Counts). c.propositions) of.due.counted))
      (λ n. operates_front n s.proofs (marks_of of.due.section) marks (omega (arith, asked.marks_total of)) begins) none_past

-- ---- The call
module _ {which : Given} {bytes : List ℕ} {cursor : ℕ} {proofs depths marks : List ℕ} (propositions held : List ℕ) {room : ℕ}
    (least : room ≡ min (length propositions) (length held)) {left : marked.Lent} {given : Answer}
    (leaves : LeavesBy which bytes cursor (with_marks (lent_of (take room propositions) proofs depths) marks) left given)
    (same : length left.others.propositions ≡ length (take room propositions)) where
  abbrev before : Lent
  before = with_authorised (with_marks (lent_of propositions proofs depths) marks) held

  cut_length : length (take room propositions) ≡ room
  cut_length = length-take-le room propositions (omega (arith, least))

  same_room : marked.room_of (with_marks (lent_of (take room propositions) proofs depths) marks) ≡ room_of before
  same_room = ap (λ (n : ℕ). record { propositions = n; proofs = length proofs; depths = min (length depths) (length marks) }) (cut_length ∙ least)

  abbrev x : Out Section
  x = decode_given which before bytes cursor

  same_section : marked.decode_given which (with_marks (lent_of (take room propositions) proofs depths) marks) bytes cursor ≡ x
  same_section = ap (λ (r : Room). decode_by which r bytes cursor) same_room

  answered : given ≡ answer_of cursor x
  answered = leaves.answer ∙ ap (answer_of cursor) same_section

  kept : length left.others.propositions ≡ room
  kept = same ∙ cut_length

  starts_are : left.others.propositions ≡ lent room (proposition_starts x)
  starts_are = leaves.tables.others.propositions ∙ ap₂ (λ (n : ℕ) (y : Out Section). lent n (proposition_starts y)) cut_length same_section

  module _ {all flags : List ℕ}
      (cleared : all ≡ lent (length (left.others.propositions ++ drop room propositions)) (take room (left.others.propositions ++ drop room propositions)))
    where
      whole : flags ≡ lent (length held) (proposition_flags x)
          → TellsBy which bytes cursor before (with_authorised (with_marks (lent_of all left.others.proofs left.others.depths) left.marks) flags) given
      whole flagged =
          record {
            answer = answered;
            tables = record {
              others = record {
                others = record {
                  propositions = cut_filled propositions left.others.propositions (proposition_starts x) (omega (arith, least)) kept starts_are cleared;
                  proofs = leaves.tables.others.proofs ∙ ap (λ (y : Out Section). lent (length proofs) (proof_starts y)) same_section;
                  depths = leaves.tables.others.depths ∙ ap (λ (y : Out Section). lent (length depths) (proof_depths y)) same_section;
                };
                marks = leaves.tables.marks ∙ ap (λ (y : Out Section). lent (length marks) (proof_marks y)) same_section;
              };
              authorised = flagged;
            };
          }

      -- a refusal: no flags
      pub left_refused : {r : Refusal} → given.outcome ≡ refused r → flags ≡ lent (length held) []
          → TellsBy which bytes cursor before (with_authorised (with_marks (lent_of all left.others.proofs left.others.depths) left.marks) flags) given
      left_refused e h = whole (rw (answer_refused cursor x (sym (ap (λ (a : Answer). a.outcome) answered) ∙ e)) h)

  -- ---- An accepted section
  module _ {a : unmarked.Accepted} (e : given.outcome ≡ ok a) where
    pub due_of : DueOf a.schema bytes cursor given.cursor a.counts left.others.proofs left.marks
    due_of = asked.due_of leaves 0 e

    front : Front (marks_of due_of.due.section) left.marks
    unfolding due_of
    front = asked.front leaves 0 e

    found : x ≡ ok due_of.due.section
    unfolding due_of
    found = sym same_section ∙ asked.decoded_is leaves 0 e

    fits : a.counts.propositions ≤ length held
    fits =
        let d : Section = due_of.due.section in
        let n : length (starts_of d.tables.propositions.entries) ≡ a.counts.propositions =
        length-map d.tables.propositions.entries (λ e. e.start) ∙ (facts due_of.due.rules due_of.due.room bytes cursor d due_of.due.decoded).propositions
        ∙ ap (λ (c : Counts). c.propositions) due_of.due.counted in
        let is : left.others.propositions ≡ lent room (starts_of d.tables.propositions.entries) =
        starts_are ∙ ap (λ (y : Out Section). lent room (proposition_starts y)) found in
        omega (
          arith,
          n,
          kept,
          least,
          ap length is,
          length-append (starts_of d.tables.propositions.entries) (replicate (room - length (starts_of d.tables.propositions.entries)) 0),
        )

    -- the flags of its propositions
    pub left_accepted : {all flags : List ℕ}
        → all ≡ lent (length (left.others.propositions ++ drop room propositions)) (take room (left.others.propositions ++ drop room propositions))
        → (Front (marks_of due_of.due.section) left.marks → a.counts.propositions ≤ length held → flags ≡ lent (length held) (flags_of due_of.due.section))
        → TellsBy which bytes cursor before (with_authorised (with_marks (lent_of all left.others.proofs left.others.depths) left.marks) flags) given
    left_accepted cleared h = whole cleared (rw found (h front fits))
