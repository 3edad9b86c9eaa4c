-- What the decoder without marks leaves where it is lent as many depths as there are marks, and what becomes of it once the rest of the
-- depths is cleared and the marks are filled.
use Prim.Native.Nat.{ℕ, ◌+◌, ◌-◌, ◌≤◌, min}
use mathlib.Core.Path.{◌≡◌, sym, ap, ap₂, ◌∙◌}
use mathlib.Core.List.{List, [], ◌++◌, append_assoc}
use native.Mathlib.Omega.{arith}
use lib.ListN.{length, take, drop, replicate, length-drop, length-append, length-replicate, length-map, replicate-append-replicate}
use lib.Seq.{take_at, length-take-le}
use Rattle.local_format.specs.Refusal.{Refusal}
use Rattle.local_format.specs.Out.{Out, ok, refused}
use Rattle.local_format.proofs.OutLaws.{bind_ok}
use Rattle.lent_table.specs.Lent.{lent}
use Rattle.evr0_section.specs.Head.{Counts, Room}
use Rattle.evr0_section.specs.Rows.{starts_of}
use Rattle.evr0_section.specs.Section.{Section, decode_section}
use Rattle.evr0_section.specs.Marks.{marks_of}
use Rattle.evr0_section.proofs.Marks.{four_marks}
use Rattle.evr0_section.proofs.Demand.{demand_3}
use Rattle.rule_table.specs.ByTable.{Given, four, rules_given, decode_by}
use Rattle.rule_table.proofs.ByTable.{given_shaped}
use Rattle.evr0.specs.Answer as unmarked
use Rattle.evr0.specs.Answer.{Answer, answer_of, lent_of, proposition_starts, proof_starts, proof_depths}
use Rattle.evr0_read.proofs.TableLaws.{facts}
use Rattle.evr0_read.proofs.FindLaws.{answer_refused, answer_accepted}
use Rattle.evr0_marks.specs.Answer.{Lent, with_marks, room_of, proof_marks, Leaves, decode_given, LeavesBy}
use Rattle.evr0_marks.specs.Steps.{Due, DueOf}

-- zeros past a table that already ends in zeros
lent_twice : (n m : ℕ) (xs : List ℕ) → length xs ≤ m → m ≤ n → lent n (lent m xs) ≡ lent n xs
lent_twice n m xs h k =
    let a : length (lent m xs) ≡ m = length-append xs (replicate (m - length xs) 0) ∙ rw length-replicate (omega arith) in
    let b : m - length xs + (n - m) ≡ n - length xs = omega arith in
    rw (a, append_assoc, replicate-append-replicate, b)

-- a table of which the first `room` entries were lent and then hold xs, and the rest is cleared
pub cut_filled : (table left xs : List ℕ) {room : ℕ} {all : List ℕ} → room ≤ length table → length left ≡ room → left ≡ lent room xs
    → all ≡ lent (length (left ++ drop room table)) (take room (left ++ drop room table)) → all ≡ lent (length table) xs
cut_filled table left xs {room} within kept is cleared =
    let n : length (left ++ drop room table) ≡ length table = length-append left (drop room table) ∙ omega (arith, kept, length-drop room table) in
    let short : length xs ≤ room = omega (arith, kept, ap length is, length-append xs (replicate (room - length xs) 0)) in
    cleared
    ∙ ap₂ lent n (take_at left (drop room table) room kept ∙ is)
    ∙ lent_twice (length table) room xs short within

module _ {which : Given} {bytes : List ℕ} {cursor : ℕ} {propositions proofs : List ℕ} (depths held : List ℕ) {room : ℕ}
    (least : room ≡ min (length depths) (length held)) {left : unmarked.Lent} {given : Answer}
    (leaves : unmarked.LeavesBy which bytes cursor (lent_of propositions proofs (take room depths)) left given)
    (same : length left.depths ≡ length (take room depths)) where
  abbrev before : Lent
  before = with_marks (lent_of propositions proofs depths) held

  cut_length : length (take room depths) ≡ room
  cut_length = length-take-le room depths (omega (arith, least))

  same_room : unmarked.room_of (lent_of propositions proofs (take room depths)) ≡ room_of before
  same_room = ap (λ (n : ℕ). record { propositions = length propositions; proofs = length proofs; depths = n }) (cut_length ∙ least)

  abbrev x : Out Section
  x = decode_given which before bytes cursor

  same_section : unmarked.decode_given which (lent_of propositions proofs (take room depths)) bytes cursor ≡ x
  same_section = ap (λ (r : Room). decode_by which r bytes cursor) same_room

  answered : given ≡ answer_of cursor x
  answered = leaves.answer ∙ ap (answer_of cursor) same_section

  kept : length left.depths ≡ room
  kept = same ∙ cut_length

  depths_are : left.depths ≡ lent room (proof_depths x)
  depths_are = leaves.tables.depths ∙ ap₂ (λ (n : ℕ) (y : Out Section). lent n (proof_depths y)) cut_length same_section

  short : length (proof_depths x) ≤ room
  short = omega (arith, kept, ap length depths_are, length-append (proof_depths x) (replicate (room - length (proof_depths x)) 0))

  module _ {all marks : List ℕ} (cleared : all ≡ lent (length (left.depths ++ drop room depths)) (take room (left.depths ++ drop room depths))) where
    whole : marks ≡ lent (length held) (proof_marks x) → LeavesBy which bytes cursor before (with_marks (lent_of left.propositions left.proofs all) marks) given
    whole marked =
        record {
          answer = answered;
          tables = record {
            others = record {
              propositions = leaves.tables.propositions ∙ ap (λ (y : Out Section). lent (length propositions) (proposition_starts y)) same_section;
              proofs = leaves.tables.proofs ∙ ap (λ (y : Out Section). lent (length proofs) (proof_starts y)) same_section;
              depths = cut_filled depths left.depths (proof_depths x) (omega (arith, least)) kept depths_are cleared;
            };
            marks = marked;
          };
          holds = rw same_room at leaves.holds;
        }

    -- a refusal: no marks
    pub left_refused : {r : Refusal} → given.outcome ≡ refused r → marks ≡ lent (length held) []
        → LeavesBy which bytes cursor before (with_marks (lent_of left.propositions left.proofs all) marks) given
    left_refused e h = whole (rw (answer_refused cursor x (sym (ap (λ (a : Answer). a.outcome) answered) ∙ e)) h)

  -- ---- An accepted section
  module _ {a : unmarked.Accepted} (e : given.outcome ≡ ok a) where
    found : (d : Section) × (x ≡ ok d) × ((answer_of cursor x).cursor ≡ d.cursor) × (a.schema ≡ d.tables.head.schema)
        × (a.counts ≡ d.tables.head.counts)
    found = answer_accepted cursor x (sym (ap (λ (a : Answer). a.outcome) answered) ∙ e)

    due : Due bytes cursor given.cursor a.counts left.proofs held
    unfolding decode_by
    due =
        let (d, is, end, schema, counts) = found in
        let (rules, given-are, decoded) = bind_ok (rules_given which) _ is in
        let f = facts rules (room_of before) bytes cursor d decoded in
        let n : length (starts_of d.tables.proofs.entries) ≡ a.counts.proofs =
        length-map d.tables.proofs.entries (λ e. e.start) ∙ f.proofs ∙ ap (λ (c : Counts). c.proofs) (sym counts) in
        let depthed : length (proof_depths x) ≡ a.counts.proofs =
        ap (λ (y : Out Section). length (proof_depths y)) is ∙ f.depth_count ∙ ap (λ (c : Counts). c.proofs) (sym counts) in
        record {
          rules = rules;
          shaped = given_shaped which rules given-are;
          room = room_of before;
          section = d;
          decoded = decoded;
          ends = sym (ap (λ (a : Answer). a.cursor) answered ∙ end);
          counted = sym counts;
          started = ap (take a.counts.proofs)
              (leaves.tables.proofs ∙ ap (λ (y : Out Section). lent (length proofs) (proof_starts y)) (same_section ∙ is))
              ∙ take_at (starts_of d.tables.proofs.entries) _ a.counts.proofs n;
          fits = omega (arith, short, depthed, least);
        }

    pub due_of : DueOf a.schema bytes cursor given.cursor a.counts left.proofs held
    unfolding due
    due_of = record { due = due; is = sym found.3 }

    -- the marks of its proofs
    pub left_accepted : {all marks : List ℕ} → all ≡ lent (length (left.depths ++ drop room depths)) (take room (left.depths ++ drop room depths))
        → marks ≡ lent (length held) (marks_of due_of.due.section)
        → LeavesBy which bytes cursor before (with_marks (lent_of left.propositions left.proofs all) marks) given
    unfolding due due_of
    left_accepted cleared h = whole cleared (rw found.1 h)

-- ---- By the four
pub by_four : {bytes : List ℕ} {cursor : ℕ} {before after : Lent} {given : Answer} → LeavesBy four bytes cursor before after given
    → Leaves bytes cursor before after given
unfolding decode_section decode_by
by_four {bytes} {cursor} {before} l =
    record {
      answer = l.answer;
      tables = l.tables;
      demand3 = demand_3 (room_of before) bytes cursor;
      marked = four_marks (room_of before) bytes cursor;
    }
