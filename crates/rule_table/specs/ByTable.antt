-- Sections by the rules of a call (document 02, Slip 8): by the four, or by those of a table that comes as bytes.
use Rattle.std.specs.Prelude.{ℕ, ◌≤◌, ◌<◌, ◌≡◌, ◌↔◌, true}
use mathlib.Core.List.{List, Memᴰ}
use Rattle.local_format.specs.Out.{Out, ok, ◌>>=◌}
use Rattle.derivation.specs.Rule.{Rule, four_rules}
use Rattle.derivation.specs.Section as derivation
use Rattle.derivation.specs.Section.{proof_at, witness_at, proof_total, witness_total}
use Rattle.derivation.specs.Walk.{Witnessed}
use Rattle.derivation.specs.Mark.{AllEnd}
use Rattle.derivation.specs.Friendly.{authorised}
use Rattle.evr0_section.specs.Head.{Room}
use Rattle.evr0_section.specs.Section.{Tables, Section, section_of, tables_at, section_at}
use Rattle.evr0_section.specs.Demand.{DemandByRules}
use Rattle.evr0_section.specs.Marks.{MarksByRules}
use Rattle.rule_table.specs.Load.{rules_of}

pub data Given : Type 0 where
  four : Given
  table : List ℕ → Given

abbrev pub rules_given : Given → Out (List Rule)
rules_given four = ok four_rules
rules_given (table t) = rules_of t

-- the table first: where it is refused, no section is looked at
unfoldable pub decode_by : Given → Room → List ℕ → ℕ → Out Section
decode_by given room s cursor = do
  rules ← rules_given given
  section_at rules room s cursor

-- ---- The words of demand 3 at a table

-- the proof k is one of a one-witness rule of the table, with one witness, of the start's proposition and of the polarity that the rule gives
pub record OneWitness (rules : List Rule) (s : derivation.Section) (i k : ℕ) : Type 0 where
  pub rule : Rule
  pub of_table : Memᴰ rule rules
  pub settled : (proof_at s k).rule ≡ rule
  pub witnesses : rule.witnesses ≡ 1
  pub gives : rule.polarity ≤ 1
  pub one : (proof_at s k).witness_count ≡ 1
  pub there : (proof_at s k).first_witness < witness_total s
  pub proposition : (witness_at s (proof_at s k).first_witness).proposition ≡ (proof_at s i).proposition
  pub polarity : (witness_at s (proof_at s k).first_witness).polarity ≡ rule.polarity

-- the proof i is one of a two-parent rule of the table: a join
pub record Join (rules : List Rule) (s : derivation.Section) (i : ℕ) : Type 0 where
  pub rule : Rule
  pub of_table : Memᴰ rule rules
  pub settled : (proof_at s i).rule ≡ rule
  pub parents : rule.parents ≡ 2
  pub two : (proof_at s i).parent_count ≡ 2

-- `Witnessed` says the first of a proof, and `JoinsRise` speaks of the second
pub record TableWords (rules : List Rule) (s : derivation.Section) : Type 0 where
  pub witnessed : (i k : ℕ) → k < proof_total s → Witnessed s i k ↔ OneWitness rules s i k
  pub join : (i : ℕ) → i < proof_total s → ((proof_at s i).rule.parents ≡ 2) ↔ Join rules s i

-- ---- What holds by the rules of a call

-- *authorised*, over walks
abbrev pub FriendlyByRules : List Rule → Room → List ℕ → ℕ → Type 0
FriendlyByRules rules room bytes cursor = (d : Section) → section_at rules room bytes cursor ≡ ok d → (n : ℕ)
    → (authorised (section_of d.tables) n ≡ true)
    ↔ ((i : ℕ) × (i < proof_total (section_of d.tables)) × ((proof_at (section_of d.tables) i).proposition ≡ n)
    × ((proof_at (section_of d.tables) i).operation ≡ 1) × AllEnd (section_of d.tables) i 1)

-- demand 3 in both directions, with these words for the tables where they read; the marks; *authorised*
pub record HoldsBy (given : Given) (room : Room) (bytes : List ℕ) (cursor : ℕ) : Type 0 where
  pub demand3 : (rules : List Rule) → rules_given given ≡ ok rules → DemandByRules rules room bytes cursor
  pub words : (rules : List Rule) → rules_given given ≡ ok rules → (t : Tables) → tables_at rules room bytes cursor ≡ ok t
      → TableWords rules (section_of t)
  pub marks : (rules : List Rule) → rules_given given ≡ ok rules → MarksByRules rules room bytes cursor
  pub friendly : (rules : List Rule) → rules_given given ≡ ok rules → FriendlyByRules rules room bytes cursor
