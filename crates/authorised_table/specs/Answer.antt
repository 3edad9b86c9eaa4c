-- Of every proposition of a section, whether it is authorised: what the decoder answers with a table for it, and what the lent tables then hold.
use Rattle.std.specs.Prelude.{ℕ, zero, suc, ◌<◌, min, ◌≡◌, ◌↔◌, true, cond, List, [], ◌∷◌, length, get_or}
use Rattle.local_format.specs.Out.{Out, ok, refused}
use Rattle.lent_table.specs.Lent.{lent}
use Rattle.derivation.specs.Section as derivation
use Rattle.derivation.specs.Friendly as friendly
use Rattle.evr0_section.specs.Head.{Room}
use Rattle.evr0_section.specs.Section.{Section, section_of}
use Rattle.rule_table.specs.ByTable.{Given, decode_by}
use Rattle.evr0.specs.Answer.{Answer, answer_of}
use Rattle.evr0_marks.specs.Answer as marked

-- the lent tables: those of the decoder with marks, and the flags
pub record Lent : Type 0 where
  pub others : marked.Lent
  pub authorised : List ℕ

abbrev pub with_authorised : marked.Lent → List ℕ → Lent
with_authorised others authorised = record { others = others; authorised = authorised }

-- their lengths. Starts and flags are one for each proposition, so the shorter of the two decides, as of depths and marks
abbrev pub room_of : Lent → Room
room_of t =
    record {
      propositions = min (length t.others.others.propositions) (length t.authorised);
      proofs = length t.others.others.proofs;
      depths = min (length t.others.others.depths) (length t.others.marks);
    }

-- as many propositions as k, from the number n on: 1 where it is authorised, else 0
unfoldable pub flags_from : derivation.Section → ℕ → ℕ → List ℕ
flags_from s zero n = []
flags_from s (suc k) n = cond (friendly.authorised s n) 1 0 ∷ flags_from s k (suc n)

abbrev pub flags_of : Section → List ℕ
flags_of d = flags_from (section_of d.tables) d.tables.head.counts.propositions 0

-- what fills the flags; a refusal has nothing
abbrev pub proposition_flags : Out Section → List ℕ
proposition_flags (ok d) = flags_of d
proposition_flags (refused r) = []

-- the tables hold it, and zeros past it
pub record Filled (x : Out Section) (before after : Lent) : Type 0 where
  pub others : marked.Filled x before.others after.others
  pub authorised : after.authorised ≡ lent (length before.authorised) (proposition_flags x)

-- the section at a cursor by the rules of a call, for lent tables of these lengths
abbrev pub decode_given : Given → Lent → List ℕ → ℕ → Out Section
decode_given given tables bytes cursor = decode_by given (room_of tables) bytes cursor

-- what a call leaves
pub record TellsBy (given : Given) (bytes : List ℕ) (cursor : ℕ) (before after : Lent) (answered : Answer) : Type 0 where
  pub answer : answered ≡ answer_of cursor (decode_given given before bytes cursor)
  pub tables : Filled (decode_given given before bytes cursor) before after

-- a flag for each proposition of an accepted section, 1 exactly where it is authorised and else 0
pub record FlagsStated (d : Section) : Type 0 where
  pub total : length (flags_of d) ≡ d.tables.head.counts.propositions
  pub each : (n : ℕ) → n < d.tables.head.counts.propositions
      → get_or (flags_of d) n 0 ≡ cond (friendly.authorised (section_of d.tables) n) 1 0
  pub one : (n : ℕ) → n < d.tables.head.counts.propositions
      → (get_or (flags_of d) n 0 ≡ 1) ↔ (friendly.authorised (section_of d.tables) n ≡ true)
