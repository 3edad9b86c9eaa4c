-- Proof rules.
use Rattle.std.specs.Prelude.{ℕ, ◌≤◌, ◌≡◌, List, [], ◌∷◌, Bool, cond, ◌||◌, eqb}
use Rattle.local_format.specs.Tag.{equal, pos_witness, neg_witness, join_same_p, op_t_only}

-- its name; how many witnesses and parents, and which operation, a proof by it has; the polarity that it asks of its witness, 2 where it asks none
pub record Rule : Type 0 where
  pub name : List ℕ
  pub witnesses : ℕ
  pub parents : ℕ
  pub operation : ℕ
  pub polarity : ℕ

-- a rule has one witness and a polarity and no parent, or one or two parents and nothing else
pub data Shaped (r : Rule) : Type 0 where
  by_witness : r.witnesses ≡ 1 → r.parents ≡ 0 → r.polarity ≤ 1 → Shaped r
  by_parents : r.witnesses ≡ 0 → 1 ≤ r.parents → r.parents ≤ 2 → r.polarity ≡ 2 → Shaped r

-- whether a witness's polarity is the one that the rule asks
unfoldable pub polarity_fits : Rule → ℕ → Bool
polarity_fits r polarity = eqb r.polarity 2 || eqb polarity r.polarity

-- ---- The rule of a name

pub data Named : Type 0 where
  known : Rule → Named
  unknown : Named

unfoldable pub rule_named : List Rule → List ℕ → Named
rule_named [] name = unknown
rule_named (r ∷ rs) name = cond (equal name r.name) (known r) (rule_named rs name)

-- ---- The four rules

abbrev pub pos_witness1 : Rule
pos_witness1 = record { name = pos_witness; witnesses = 1; parents = 0; operation = 0; polarity = 1 }

abbrev pub neg_witness1 : Rule
neg_witness1 = record { name = neg_witness; witnesses = 1; parents = 0; operation = 0; polarity = 0 }

abbrev pub join_same_p1 : Rule
join_same_p1 = record { name = join_same_p; witnesses = 0; parents = 2; operation = 0; polarity = 2 }

abbrev pub op_t_only1 : Rule
op_t_only1 = record { name = op_t_only; witnesses = 0; parents = 1; operation = 1; polarity = 2 }

unfoldable pub four_rules : List Rule
four_rules = pos_witness1 ∷ neg_witness1 ∷ join_same_p1 ∷ op_t_only1 ∷ []
