-- From the code's structs and enums to the definitions' types.
use Rattle.std.specs.Prelude.{ℕ, not, length, Option, Some, None}
use mathlib.Core.List.{List, map}
use Rattle.local_format.specs.Out.{Out, ok, check, ◌>>=◌, ◌>>◌}
use Rattle.derivation.specs.Rule as rules
use Rattle.rule_table.specs.Load.{Loaded, given_twice, rule_in, rule_at, outside, named_in}
use Rattle.rule_table.specs.ByTable.{Given, four, table}
use Rattle.evr0_rules.specs.declared.rule.Rule.{Rule}
use Rattle.evr0_rules.specs.declared.placed.RulesAt.{RulesAt}
use Rattle.evr0_rules.specs.declared.settle.Rules.{Rules}
use Rattle.evr0_rules.specs.declared.settle.Rules.TheVariants as choice
use Rattle.evr0_rules.specs.declared.settle.Rulebook.{Rulebook}
use Rattle.evr0_rules.specs.declared.settle.Rulebook.TheVariants as book

-- the rule with these numbers under a name
abbrev pub rule_out : List ℕ → Rule → rules.Rule
rule_out name r =
    record { name = name; witnesses = r.witnesses; parents = r.parents; operation = r.operation; polarity = r.polarity }

-- a rule, but with this polarity
abbrev pub asking : ℕ → rules.Rule → rules.Rule
asking polarity r =
    record { name = r.name; witnesses = r.witnesses; parents = r.parents; operation = r.operation; polarity = polarity }

abbrev pub named_out : List ℕ → Option Rule → rules.Named
named_out name (Some r) = rules.known (rule_out name r)
named_out name None = rules.unknown

-- the rules that start at these places of a table
abbrev pub rules_out : RulesAt → List rules.Rule
rules_out r = map (rule_in r.table.now) r.starts.now

-- ---- The rules of a call

abbrev pub given_out : Rules → Given
given_out choice.Four = four
given_out (choice.Table t) = table t.now

abbrev pub book_rules : Rulebook → List rules.Rule
book_rules book.Four = rules.four_rules
book_rules (book.Table b) = rules_out b.rules

-- ---- Loading

-- a rule at a place, after which this place is
abbrev pub loaded_out : List ℕ → ℕ → ℕ → Loaded
loaded_out t place next = record { rule = rule_in t place; next = next }

-- the rule at a place, whose name none of those before has
abbrev pub new_rule_at : List rules.Rule → List ℕ → ℕ → Out Loaded
new_rule_at before s at = do
  r ← outside (rule_at s at)
  check (not (named_in before r.rule.name)) given_twice 0
  ok r

-- how many rules were loaded
abbrev pub count_in : Out (List rules.Rule) → Out ℕ
count_in x = do
  rs ← x
  ok (length rs)
