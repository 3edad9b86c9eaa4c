-- *Authorised*: what is answered of a proposition of a section that was decoded anew, what the lent tables then hold, and what is stated of
-- the answer.
use Rattle.std.specs.Prelude.{ℕ, ◌≤◌, ◌<◌, ◌≡◌, ◌↔◌, Bool, true, List, get_or}
use Rattle.local_format.specs.Out.{Out, ok}
use Rattle.local_format.specs.Number.{Chosen, not_in_table}
use Rattle.derivation.specs.Section.{proof_at, proof_total}
use Rattle.derivation.specs.Mark.{SomeEnds, AllEnd}
use Rattle.derivation.specs.Friendly.{authorised}
use Rattle.evr0_section.specs.Rows.{Entry}
use Rattle.evr0_section.specs.Proposition.{Proposition}
use Rattle.evr0_section.specs.Section.{Section, section_of}
use Rattle.evr0_section.specs.Marks.{marks_of}
use Rattle.evr0_read.specs.Ask.{proposition_number}
use Rattle.evr0_read.specs.Asked.{telling}
use Rattle.rule_table.specs.ByTable.{Given}
use Rattle.evr0_marks.specs.Answer.{Lent, Filled, decode_in, decode_given}

-- whether some proof of the proposition with the number n has operation 1 and mark 1
abbrev pub authorised_told : ℕ → Out (Chosen Section (Entry Proposition)) → Out Bool
authorised_told n = telling (λ c. authorised (section_of c.decoded.tables) n)

-- the proposition is one of the section x, and the answer is what `tell` says of it; the tables are those of the section, and zeros after a
-- refusal
pub record Asks {B : Type 0} (n : ℕ) (tell : Out (Chosen Section (Entry Proposition)) → B) (x : Out Section) (before after : Lent) (r : B) : Type 0 where
  pub answer : r ≡ tell (proposition_number n x)
  pub tables : Filled (telling (λ c. c.decoded) (proposition_number n x)) before after

-- of the section that was decoded anew
abbrev pub Authorises : {B : Type 0} → ℕ → (Out (Chosen Section (Entry Proposition)) → B) → List ℕ → ℕ → Lent → Lent → B → Type 0
Authorises n tell bytes cursor before after r = Asks n tell (decode_in before bytes cursor) before after r

-- the same by the rules of a call
abbrev pub AuthorisesBy : {B : Type 0} → Given → ℕ → (Out (Chosen Section (Entry Proposition)) → B) → List ℕ → ℕ → Lent → Lent → B → Type 0
AuthorisesBy given n tell bytes cursor before after r = Asks n tell (decode_given given before bytes cursor) before after r

-- ---- What is stated of the answer for the proposition with the number n of an accepted section d

abbrev pub authorised_answer : ℕ → Section → Out Bool
authorised_answer n d = authorised_told n (proposition_number n (ok d))

-- the proof i is one of the proposition n, with operation 1: document 01's condition
pub record Operation (d : Section) (n i : ℕ) : Type 0 where
  pub there : i < proof_total (section_of d.tables)
  pub proposition : (proof_at (section_of d.tables) i).proposition ≡ n
  pub operation : (proof_at (section_of d.tables) i).operation ≡ 1

pub record AuthorisedStated (d : Section) (n : ℕ) : Type 0 where
  pub not_there : (authorised_answer n d ≡ not_in_table) ↔ (d.tables.head.counts.propositions ≤ n)
  -- operation and mark are those of one proof
  pub authorised_exactly : (authorised_answer n d ≡ ok true) ↔ ((i : ℕ) × Operation d n i × (get_or (marks_of d) i 0 ≡ 1))
  -- over walks: every walk down from that proof ends at a positive witness
  pub friendly : (authorised_answer n d ≡ ok true) ↔ ((i : ℕ) × Operation d n i × AllEnd (section_of d.tables) i 1)
  -- where each of its operations has a walk to a negative witness it is not authorised
  pub spoken_against : ((i : ℕ) → Operation d n i → SomeEnds (section_of d.tables) i 0) → authorised_answer n d ≡ ok true → ⊥
  -- never where document 01's condition does not hold
  pub fewer : authorised_answer n d ≡ ok true → (i : ℕ) × Operation d n i
