-- What is answered of two sections, and what the eleven lent tables then hold.
use Rattle.std.specs.Prelude.{ℕ, ◌≡◌, List, length}
use Rattle.local_format.specs.Out.{Out}
use Rattle.lent_table.specs.Lent.{lent}
use Rattle.rule_table.specs.ByTable.{Given}
use Rattle.evr0.specs.Answer.{lent_of}
use Rattle.evr0_marks.specs.Answer.{with_marks}
use Rattle.evr0_compare.specs.Compare.{Input, Comparison, Answer, compare_by, held_in, first_of, second_of, list_bytes}
use Rattle.authorised_table.specs.Answer as one
use Rattle.authorised_table.specs.Answer.{with_authorised, room_of}

-- the tables of one section
abbrev pub tables_of : List ℕ → List ℕ → List ℕ → List ℕ → List ℕ → one.Lent
tables_of propositions proofs depths marks authorised = with_authorised (with_marks (lent_of propositions proofs depths) marks) authorised

-- those of both, and the list's
pub record Lent : Type 0 where
  pub first : one.Lent
  pub second : one.Lent
  pub verdicts : List ℕ

abbrev pub lent_to : one.Lent → one.Lent → List ℕ → Lent
lent_to first second verdicts = record { first = first; second = second; verdicts = verdicts }

-- a section as it is lent
abbrev pub input_of : one.Lent → List ℕ → ℕ → Input
input_of tables bytes cursor = record { room = room_of tables; bytes = bytes; cursor = cursor }

abbrev pub compare_in : Given → List ℕ → ℕ → List ℕ → ℕ → Lent → Answer Comparison
compare_in given first first_cursor second second_cursor tables =
    compare_by given (input_of tables.first first first_cursor) (input_of tables.second second second_cursor) (length tables.verdicts)

-- the tables hold both sections and the list, and zeros past them; zeros after any refusal
pub record Filled (x : Out Comparison) (before after : Lent) : Type 0 where
  pub first : one.Filled (first_of x) before.first after.first
  pub second : one.Filled (second_of x) before.second after.second
  pub verdicts : after.verdicts ≡ lent (length before.verdicts) (list_bytes x)

-- what a call leaves, whose answer is what `tell` says of the definition's
pub record Compares {B : Type 0} (tell : Answer Comparison → B) (given : Given) (first : List ℕ) (first_cursor : ℕ) (second : List ℕ) (second_cursor : ℕ)
    (before after : Lent) (r : B) : Type 0 where
  pub answer : r ≡ tell (compare_in given first first_cursor second second_cursor before)
  pub tables : Filled (held_in (compare_in given first first_cursor second second_cursor before)) before after
