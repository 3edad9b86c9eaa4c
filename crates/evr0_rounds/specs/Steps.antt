-- What the functions of the rounds leave on the way to their answer.
use Rattle.std.specs.Prelude.{ℕ, ◌≤◌, ◌<◌, ◌≡◌, List, length, get_or}
use Rattle.local_format.specs.Out.{Out, ok, refused, check, ◌>>=◌}
use Rattle.lent_table.specs.Lent.{lent}
use Rattle.derivation.specs.Section as of
use Rattle.rounds.specs.Rounds.{after_rounds, none_left}
use Rattle.evr0_section.specs.Section.{Section}
use Rattle.evr0_pass.specs.Maps.{done_in}
use Rattle.evr0.specs.Answer.{Lent, Filled}
use Rattle.evr0_rounds.specs.Answer.{Answer}

-- the first unmarked proof from a place on
pub record FirstUnmarked (rounds : List ℕ) (from found : ℕ) : Type 0 where
  pub upto : found ≤ length rounds
  pub marked : (j : ℕ) → from ≤ j → j < found → get_or rounds j 0 ≡ 0 → ⊥
  pub unmarked : found < length rounds → get_or rounds found 0 ≡ 0

-- a table of marks of earlier rounds, in which each proof before the first is marked
pub record RoundDue (total round first : ℕ) (rounds : List ℕ) : Type 0 where
  pub entries : length rounds ≡ total
  pub start : first ≤ total
  pub marked : (j : ℕ) → j < first → get_or rounds j 0 ≡ 0 → ⊥
  pub earlier : (j : ℕ) → get_or rounds j 0 < round

-- the table after 256 rounds, and 27 where one is left
pub record Done (s : of.Section) (left : List ℕ) (given : Out (Unit {0})) : Type 0 where
  pub answer : given ≡ check (none_left (after_rounds s 256)) 27 0
  pub rounds : left ≡ after_rounds s 256

-- the rounds, or their refusal, and the lent table where they are made
pub record Fills (x : Out (List ℕ)) (before after : List ℕ) (given : Out (Unit {0})) : Type 0 where
  pub answer : given ≡ done_in x
  pub rounds : (rs : List ℕ) → x ≡ ok rs → after ≡ lent (length before) rs

-- how many proofs an accepted section has
abbrev pub proofs_in : Out Section → Out ℕ
proofs_in x = do
  s ← x
  ok s.tables.head.counts.proofs

-- that, or the refusal, and the three lent tables
pub record Passes (x : Out Section) (before after : Lent) (given : Out ℕ) : Type 0 where
  pub answer : given ≡ proofs_in x
  pub tables : Filled x before after

-- with the cursor after the section
pub record Marked : Type 0 where
  pub proofs : ℕ
  pub cursor : ℕ

abbrev pub marked_in : Out Section → Out Marked
marked_in x = do
  s ← x
  ok (record { proofs = s.tables.head.counts.proofs; cursor = s.cursor })

pub record Ends (x : Out Section) (before after : Lent) (given : Out Marked) : Type 0 where
  pub answer : given ≡ marked_in x
  pub tables : Filled x before after

-- what is answered of it where the cursor was brought at `cursor`
abbrev pub answer_with : ℕ → Out Marked → Answer
answer_with cursor (ok m) = record { cursor = m.cursor; outcome = ok m.proofs }
answer_with cursor (refused r) = record { cursor = cursor; outcome = refused r }
