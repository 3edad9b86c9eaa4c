-- What is answered of a proposition, from what the decoder with marks leaves: its refusal, 62 where the section has no such proposition, and
-- otherwise what its proofs and their marks say.
use Prim.Native.Nat.{ℕ, ◌-◌, ◌≤◌, ◌<◌}
use mathlib.Core.Path.{◌≡◌, refl, sym, ap, ◌∙◌}
use mathlib.Core.Bool.{Bool}
use mathlib.Core.List.{List, [], map}
use native.Mathlib.Omega.{arith}
use lib.ListN.{length, take, length-map, length-append, replicate}
use lib.Seq.{take_at}
use Rattle.local_format.specs.Refusal.{Refusal}
use Rattle.local_format.specs.Out.{Out, ok, refused, refuse}
use Rattle.local_format.specs.Number.{Chosen}
use Rattle.local_format.proofs.NumberLaws.{not_there_lem, is_there}
use Rattle.lent_table.specs.Lent.{lent, Front}
use Rattle.derivation.specs.Rule.{Rule}
use Rattle.derivation.specs.Section as derivation
use Rattle.derivation.specs.Section.{proof_total}
use Rattle.derivation.specs.Friendly.{operates, authorised}
use Rattle.evr0_section.specs.Head.{Counts}
use Rattle.evr0_section.specs.Rows.{Entry, starts_of}
use Rattle.evr0_section.specs.Proposition.{Proposition}
use Rattle.evr0_section.specs.Section.{Section, section_of, proof_item, section_at, decode_section}
use Rattle.evr0_section.specs.Marks.{marks_of}
use Rattle.evr0_section.proofs.Marks.{marks_read}
use Rattle.evr0_pass.specs.View.{Layout, proof_view, view}
use Rattle.evr0.specs.Answer as unmarked
use Rattle.evr0.specs.Answer.{Answer, answer_of, lent_of}
use Rattle.evr0_read.proofs.AcceptedLaws.{Accepted}
use Rattle.evr0_read.proofs.TableLaws.{facts}
use Rattle.evr0_read.proofs.FindLaws.{answer_refused, answer_accepted, by_given}
use Rattle.rule_table.specs.ByTable.{Given, four, rules_given, decode_by}
use Rattle.rule_table.proofs.ByTable.{given_shaped}
use Rattle.evr0_marks.specs.Answer.{Lent, with_marks, room_of, proof_marks, decode_given, LeavesBy}
use Rattle.evr0_marks.specs.Steps.{Due, DueOf}
use Rattle.evr0_authorised.specs.Authorised.{authorised_told, Authorises, AuthorisesBy}
use Rattle.evr0_authorised.proofs.OperatesLaws.{operates_front}

-- ---- The proofs of a section that was decoded
module _ {schema : ℕ} {bytes : List ℕ} {cursor end : ℕ} {counts : Counts} {proofs held : List ℕ}
    (of : DueOf schema bytes cursor end counts proofs held) where
  abbrev s : derivation.Section
  s = section_of of.due.section.tables

  pub marks_total : length (marks_of of.due.section) ≡ proof_total s
  marks_total = (marks_read of.due.rules of.due.shaped of.due.room bytes cursor of.due.section of.due.decoded).total

  module _ (p starts : List ℕ) (layout : Layout) (viewed : view of.due.rules p starts layout ≡ s) where
    pub proofs_are : map (proof_view of.due.rules p) starts ≡ s.proofs
    unfolding view
    proofs_are = ap (λ (t : derivation.Section). t.proofs) viewed

    pub told : {r : Bool} (marks : List ℕ) (n : ℕ) → r ≡ operates (map (proof_view of.due.rules p) starts) marks n
        → Front (marks_of of.due.section) marks → r ≡ authorised s n
    unfolding authorised proof_total
    told marks n e f =
        e ∙ ap (λ (ps : List derivation.Proof). operates ps marks n) proofs_are
        ∙ operates_front n s.proofs (marks_of of.due.section) marks (omega (arith, marks_total)) f

-- ---- The decoder's answer
module _ {which : Given} {bytes : List ℕ} {cursor : ℕ} {before after : Lent} {given : Answer} (leaves : LeavesBy which bytes cursor before after given)
    (n : ℕ) where
  abbrev x : Out Section
  x = decode_given which before bytes cursor

  pub not_decoded : {r : Refusal} → given.outcome ≡ refused r → AuthorisesBy which n (authorised_told n) bytes cursor before after (refused r)
  not_decoded e =
      let z : x ≡ refused _ = answer_refused cursor x (sym (ap (λ (a : Answer). a.outcome) leaves.answer) ∙ e) in
      record { answer = rw z; tables = rw z (rw z at leaves.tables) }

  module _ {a : unmarked.Accepted} (e : given.outcome ≡ ok a) where
    found : (d : Section) × (x ≡ ok d) × ((answer_of cursor x).cursor ≡ d.cursor) × (a.schema ≡ d.tables.head.schema)
        × (a.counts ≡ d.tables.head.counts)
    found = answer_accepted cursor x (sym (ap (λ (a : Answer). a.outcome) leaves.answer) ∙ e)

    abbrev d : Section
    d = found.0

    -- by some of the call's rules
    by : (rules : List Rule) × (rules_given which ≡ ok rules) × (section_at rules (room_of before) bytes cursor ≡ ok d)
    by = by_given which (room_of before) bytes cursor found.1

    counted : Accepted by.0 (room_of before) bytes cursor d
    counted = facts by.0 (room_of before) bytes cursor d by.2

    marks_are : after.marks ≡ lent (length before.marks) (marks_of d)
    marks_are = leaves.tables.marks ∙ ap (λ (y : Out Section). lent (length before.marks) (proof_marks y)) found.1

    one_each : length (marks_of d) ≡ a.counts.proofs
    unfolding proof_total section_of
    one_each =
        (leaves.holds.marks by.0 by.1 d by.2).total ∙ length-map d.tables.proofs.entries proof_item ∙ counted.proofs ∙ ap
        (λ (c : Counts). c.proofs) (sym found.4)

    due : Due bytes cursor given.cursor a.counts after.others.proofs after.marks
    due =
        let n : length (starts_of d.tables.proofs.entries) ≡ a.counts.proofs =
        length-map d.tables.proofs.entries (λ e. e.start) ∙ counted.proofs ∙ ap (λ (c : Counts). c.proofs) (sym found.4) in
        record {
          rules = by.0;
          shaped = given_shaped which by.0 by.1;
          room = room_of before;
          section = d;
          decoded = by.2;
          ends = sym (ap (λ (a : Answer). a.cursor) leaves.answer ∙ found.2);
          counted = sym found.4;
          started = ap (take a.counts.proofs)
              (leaves.tables.others.proofs ∙ ap (λ (y : Out Section). lent (length before.others.proofs) (unmarked.proof_starts y)) found.1)
              ∙ take_at (starts_of d.tables.proofs.entries) _ a.counts.proofs n;
          fits = omega (arith, one_each, ap length marks_are, length-append (marks_of d) (replicate (length before.marks - length (marks_of d)) 0));
        }

    pub due_of : DueOf a.schema bytes cursor given.cursor a.counts after.others.proofs after.marks
    unfolding due
    due_of = record { due = due; is = sym found.3 }

    pub decoded_is : x ≡ ok due_of.due.section
    unfolding due due_of
    decoded_is = found.1

    pub front : Front (marks_of due_of.due.section) after.marks
    unfolding due due_of
    front = ap (take (length (marks_of d))) marks_are ∙ take_at (marks_of d) _ (length (marks_of d)) refl

    propositions : length d.tables.propositions.entries ≡ a.counts.propositions
    propositions = counted.propositions ∙ ap (λ (c : Counts). c.propositions) (sym found.4)

    pub answered : {r : Bool} → n < a.counts.propositions → r ≡ authorised (section_of due_of.due.section.tables) n
        → AuthorisesBy which n (authorised_told n) bytes cursor before after (ok r)
    unfolding due due_of
    answered h same =
        let t = is_there n d.tables.propositions.entries (omega (arith, propositions)) in
        record { answer = rw (found.1, t.1) (ap ok same); tables = rw (found.1, t.1) (rw found.1 at leaves.tables) }

    pub no_such : {ps qs ds ms : List ℕ} → a.counts.propositions ≤ n → ps ≡ lent (length before.others.propositions) []
        → qs ≡ lent (length before.others.proofs) [] → ds ≡ lent (length before.others.depths) [] → ms ≡ lent (length before.marks) []
        → AuthorisesBy which n (authorised_told n) bytes cursor before (with_marks (lent_of ps qs ds) ms) (refuse 62 0)
    no_such h ep eq ed em =
        let t = not_there_lem n d.tables.propositions.entries (omega (arith, propositions)) in
        record {
          answer = rw (found.1, t);
          tables = rw (found.1, t) (record { others = record { propositions = ep; proofs = eq; depths = ed }; marks = em });
        }

-- ---- By the four, which `decode_section` goes by
pub by_four : {B : Type 0} {n : ℕ} {tell : Out (Chosen Section (Entry Proposition)) → B} (bytes : List ℕ) (cursor : ℕ) {before after : Lent} {r : B}
    → AuthorisesBy four n tell bytes cursor before after r → Authorises n tell bytes cursor before after r
unfolding decode_section decode_by
by_four bytes cursor a = a
