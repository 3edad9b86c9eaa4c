-- What writing the columns of a section and taking them back leave: the answer, the output and the lent tables.
use Rattle.std.specs.Prelude.{ℕ, ◌≡◌, List, length}
use Rattle.local_format.specs.Out.{Out}
use Rattle.rule_table.specs.ByTable.{Given}
use Rattle.evr0_columns.specs.Columns.{Copy, written, taken_back, length_of, decoded_of, output_of}
use Rattle.evr0.specs.Answer as decoder
use Rattle.evr0.specs.Answer.{room_of, Filled}

-- the decoder's lent tables, and the output
pub record Lent : Type 0 where
  pub tables : decoder.Lent
  pub output : List ℕ

abbrev pub with_output : decoder.Lent → List ℕ → Lent
with_output tables output = record { tables = tables; output = output }

-- the answer tells the length written or the refusal; the output holds the bytes and zeros past them, the tables are those of the section; zeros after a
-- refusal
pub record CopiesAs {B : Type 0} (tell : Out ℕ → B) (x : Out Copy) (before after : Lent) (given : B) : Type 0 where
  pub answer : given ≡ tell (length_of x)
  pub output : after.output ≡ output_of (length before.output) x
  pub tables : Filled (decoded_of x) before.tables after.tables

-- the columns of the section at a cursor, by the rules of a call
abbrev pub WritesAs : {B : Type 0} → (Out ℕ → B) → Given → List ℕ → ℕ → Lent → Lent → B → Type 0
WritesAs tell given bytes cursor before after answer =
    CopiesAs tell (written given (room_of before.tables) (length before.output) bytes cursor) before after answer

-- the section of some columns
abbrev pub TakesBackAs : {B : Type 0} → (Out ℕ → B) → Given → List ℕ → Lent → Lent → B → Type 0
TakesBackAs tell given columns before after answer =
    CopiesAs tell (taken_back given (room_of before.tables) (length before.output) columns) before after answer

-- ---- The answer as it is

abbrev pub Copies : Out Copy → Lent → Lent → Out ℕ → Type 0
Copies x before after given = CopiesAs (λ y. y) x before after given

abbrev pub Writes : Given → List ℕ → ℕ → Lent → Lent → Out ℕ → Type 0
Writes given bytes cursor before after answer = WritesAs (λ y. y) given bytes cursor before after answer

abbrev pub TakesBack : Given → List ℕ → Lent → Lent → Out ℕ → Type 0
TakesBack given columns before after answer = TakesBackAs (λ y. y) given columns before after answer
