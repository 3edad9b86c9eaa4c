-- What is answered of a record of a section that was decoded anew, and what the lent tables then hold.
use Rattle.std.specs.Prelude.{ℕ, ◌≡◌, List}
use Rattle.local_format.specs.Out.{Out, ok, ◌>>=◌}
use Rattle.local_format.specs.Number.{Chosen}
use Rattle.evr0_section.specs.Section.{Section}
use Rattle.rule_table.specs.ByTable.{Given}
use Rattle.evr0.specs.Answer.{Lent, Filled, decode_in, decode_given}

module _ {E : Type 0} where
  -- what is told of a record and of its section
  abbrev pub telling : {A : Type 0} → (Chosen Section E → A) → Out (Chosen Section E) → Out A
  telling f x = do
    c ← x
    ok (f c)

  -- `ask` picks a record of the section x, and the answer is what `tell` says of it; the tables are those of the section, and zeros after a
  -- refusal
  pub record Asks {B : Type 0} (ask : Out Section → Out (Chosen Section E)) (tell : Out (Chosen Section E) → B) (x : Out Section) (before after : Lent)
      (r : B) : Type 0 where
    pub answer : r ≡ tell (ask x)
    pub tables : Filled (telling (λ c. c.decoded) (ask x)) before after

  -- of the section that was decoded anew
  abbrev pub Answers : {B : Type 0} → (Out Section → Out (Chosen Section E)) → (Out (Chosen Section E) → B) → List ℕ → ℕ → Lent → Lent → B → Type 0
  Answers ask tell bytes cursor before after r = Asks ask tell (decode_in before bytes cursor) before after r

  -- the same by the rules of a call
  abbrev pub AnswersBy : {B : Type 0} → Given → (Out Section → Out (Chosen Section E)) → (Out (Chosen Section E) → B) → List ℕ → ℕ → Lent → Lent → B
      → Type 0
  AnswersBy given ask tell bytes cursor before after r = Asks ask tell (decode_given given before bytes cursor) before after r
