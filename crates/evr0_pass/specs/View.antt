-- The tables of a payload as its bytes hold them at known places, for the last pass, which runs over a payload whose tables have been read.
use Rattle.std.specs.Prelude.{ℕ, zero, suc, ◌+◌, ◌-◌, ◌*◌, ◌/◌, ◌≤◌, ◌<◌, ◌≡◌, List, [], ◌∷◌, map, length, get_or}
use Rattle.local_format.specs.Field.{le}
use Rattle.local_format.specs.Text.{bytes_at}
use Rattle.derivation.specs.Rule.{Rule, Named, known, unknown, rule_named}
use Rattle.derivation.specs.Section.{Proof, Witness, Section}
use Rattle.evr0_section.specs.Head.{Counts}

-- the counts of the tables, the size of a witness, and where the tables of the witnesses and of the parents start
pub record Layout : Type 0 where
  pub counts : Counts
  pub witness_size : ℕ
  pub witnesses_at : ℕ
  pub parents_at : ℕ

-- n places from `at` on, `size` apart
unfoldable pub places : ℕ → ℕ → ℕ → List ℕ
places size zero at = []
places size (suc n) at = at ∷ places size n (at + size)

-- ---- A proof by its start

-- the name of its rule
abbrev pub name_at : List ℕ → ℕ → List ℕ
name_at p start = bytes_at p (start + 10) (le 2 p (start + 8))

-- the place after that name, where the authority stands
abbrev pub after_name : List ℕ → ℕ → ℕ
after_name p start = start + 10 + le 2 p (start + 8)

abbrev pub nameless : Rule
nameless = record { name = []; witnesses = 0; parents = 0; operation = 0; polarity = 2 }

-- the rule of a name; the nameless one where there is none
abbrev pub rule_in : Named → Rule
rule_in (known r) = r
rule_in unknown = nameless

-- by a rule
abbrev pub proof_by : Rule → List ℕ → ℕ → Proof
proof_by rule p start =
    record {
      number = le 4 p start;
      proposition = le 4 p (start + 4);
      rule = rule;
      authority = le 4 p (after_name p start);
      first_witness = le 4 p (after_name p start + 4);
      witness_count = le 4 p (after_name p start + 8);
      first_parent = le 4 p (after_name p start + 12);
      parent_count = le 4 p (after_name p start + 16);
      operation = le 1 p (after_name p start + 20);
    }

-- by the one of the rules that has the name
abbrev pub rule_at : List Rule → List ℕ → ℕ → Rule
rule_at rules p start = rule_in (rule_named rules (name_at p start))

unfoldable pub proof_view : List Rule → List ℕ → ℕ → Proof
proof_view rules p start = proof_by (rule_at rules p start) p start

-- ---- The three tables

-- the width of a span's ends, by the size of a witness
unfoldable pub width_in : ℕ → ℕ
width_in size = (size - 76) / 2

unfoldable pub witness_view : ℕ → List ℕ → ℕ → Witness
witness_view width p at =
    record {
      number = le 4 p at;
      proposition = le 4 p (at + 4);
      polarity = le 1 p (at + 8);
      span_start = le width p (at + 44);
      span_end = le width p (at + 44 + width);
    }

-- proofs by their starts, witnesses of one size, parent cells of 4 bytes
unfoldable pub view : List Rule → List ℕ → List ℕ → Layout → Section
view rules p starts l =
    record {
      propositions = l.counts.propositions;
      proofs = map (proof_view rules p) starts;
      witnesses = map (witness_view (width_in l.witness_size) p) (places l.witness_size l.counts.witnesses l.witnesses_at);
      parents = map (le 4 p) (places 4 l.counts.parents l.parents_at);
    }

-- ---- What the last pass relies on

-- the proof at a start is the i-th and lies in the payload, with 24 bytes after its rule's name, and what it owns is there
pub record ProofThere (p : List ℕ) (l : Layout) (start i : ℕ) : Type 0 where
  pub inside : after_name p start + 24 ≤ length p
  pub number : le 4 p start ≡ i
  pub witnesses : le 4 p (after_name p start + 4) + le 4 p (after_name p start + 8) ≤ l.counts.witnesses
  pub parents : le 4 p (after_name p start + 12) + le 4 p (after_name p start + 16) ≤ l.counts.parents

-- the witnesses lie in a payload of this length
pub record WitnessesThere (len : ℕ) (l : Layout) : Type 0 where
  pub size : 76 ≤ l.witness_size
  pub inside : l.witnesses_at + l.witness_size * l.counts.witnesses ≤ len

pub record TablesThere (p starts : List ℕ) (l : Layout) : Type 0 where
  pub proofs : (i : ℕ) → i < length starts → ProofThere p l (get_or starts i 0) i
  pub witnesses : WitnessesThere (length p) l
  pub parents : l.parents_at + 4 * l.counts.parents ≤ length p

-- a table's first entries are the polarities that the proofs' rules ask
abbrev pub PolaritiesThere : List Rule → List ℕ → List ℕ → List ℕ → Type 0
PolaritiesThere rules p starts table = (i : ℕ) → i < length starts → get_or table i 0 ≡ (rule_at rules p (get_or starts i 0)).polarity

-- a proof of these tables, after those whose depths are known
pub record ProofDue (p starts : List ℕ) (l : Layout) (depths : List ℕ) (q : Proof) : Type 0 where
  pub tables : TablesThere p starts l
  pub witnesses : q.first_witness + q.witness_count ≤ l.counts.witnesses
  pub parents : q.first_parent + q.parent_count ≤ l.counts.parents
  pub started : q.number ≤ length starts
  pub known : q.number ≤ length depths
