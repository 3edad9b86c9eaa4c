-- A table of rules as bytes (document 02, Slip 8): a 1-byte count, then each rule's name as text and its four numbers, a byte each.
use Rattle.std.specs.Prelude.{ℕ, zero, suc, ◌+◌, ◌≤◌, ◌<◌, ◌≡◌, Bool, false, not, ◌&&◌, ◌||◌, eqb, leb, length}
use mathlib.Core.List.{List, [], ◌∷◌, ◌++◌, Memᴰ}
use Rattle.local_format.specs.Out.{Out, ok, refused, refuse, check, ◌>>=◌, ◌>>◌}
use Rattle.local_format.specs.Field.{le}
use Rattle.utf8.specs.Utf8 as utf8
use Rattle.local_format.specs.Text.{bytes_at, section_field, text_at}
use Rattle.local_format.specs.Tag.{equal}
use Rattle.derivation.specs.Rule.{Rule, Shaped}

-- ---- The two refusals, each at offset 0

-- a count or a rule outside the bounds or cut, or bytes left over
abbrev pub outside_bounds : ℕ
outside_bounds = 69

-- a name given twice
abbrev pub given_twice : ℕ
given_twice = 70

-- ---- One rule

-- either one witness, no parent and polarity 0 or 1, or no witness, 1 or 2 parents and polarity 2
unfoldable pub is_shaped : Rule → Bool
is_shaped r =
    eqb r.witnesses 1 && (eqb r.parents 0 && leb r.polarity 1) ||
    eqb r.witnesses 0 && (leb 1 r.parents && (leb r.parents 2 && eqb r.polarity 2))

-- and a name of at most 64 bytes, and operation 0 or 1
unfoldable pub bounded : Rule → Bool
bounded r = leb (length r.name) 64 && (leb r.operation 1 && is_shaped r)

-- what stands at a place, as a rule
unfoldable pub rule_in : List ℕ → ℕ → Rule
rule_in s at =
    let next : ℕ = at + 2 + le 2 s at in
    record {
      name = bytes_at s (at + 2) (le 2 s at);
      witnesses = le 1 s next;
      parents = le 1 s (next + 1);
      operation = le 1 s (next + 2);
      polarity = le 1 s (next + 3);
    }

pub record Loaded : Type 0 where
  pub rule : Rule
  pub next : ℕ

unfoldable pub rule_at : List ℕ → ℕ → Out Loaded
rule_at s at = do
  name ← text_at s at
  numbers ← section_field 4 s name.next
  check (bounded (rule_in s at)) outside_bounds 0
  ok (record { rule = rule_in s at; next = numbers.next })

-- ---- The table

-- whatever is wrong with a field or a text of the table
abbrev pub outside : {A : Type 0} → Out A → Out A
outside (ok a) = ok a
outside (refused r) = refuse outside_bounds 0

unfoldable pub named_in : List Rule → List ℕ → Bool
named_in [] name = false
named_in (r ∷ rs) name = equal name r.name || named_in rs name

-- the next n rules, after those in `before`: rule by rule, its bounds before its name, and bytes left over last
unfoldable pub rules_from : ℕ → List Rule → List ℕ → ℕ → Out (List Rule)
rules_from zero before s at = do
  check (eqb at (length s)) outside_bounds 0
  ok []
rules_from (suc n) before s at = do
  r ← outside (rule_at s at)
  check (not (named_in before r.rule.name)) given_twice 0
  rest ← rules_from n (r.rule ∷ before) s r.next
  ok (r.rule ∷ rest)

unfoldable pub rules_of : List ℕ → Out (List Rule)
rules_of s = do
  count ← outside (section_field 1 s 0)
  check (leb 1 count.value && leb count.value 32) outside_bounds 0
  rules_from count.value [] s count.next

-- ---- What a table may hold

-- 1 to 64 bytes of UTF-8 without control characters
pub record Name (b : List ℕ) : Type 0 where
  pub some : 1 ≤ length b
  pub short : length b ≤ 64
  pub points : List ℕ
  pub is_utf8 : utf8.decode b ≡ utf8.points points
  pub no_control : utf8.any_control points ≡ false

pub record Allowed (r : Rule) : Type 0 where
  pub name : Name r.name
  pub shaped : Shaped r
  pub operation : r.operation ≤ 1

-- no two rules have one name
pub data Distinct : List Rule → Type 0 where
  none : Distinct []
  also : {r : Rule} {rs : List Rule} → ((q : Rule) → Memᴰ q rs → q.name ≡ r.name → ⊥) → Distinct rs → Distinct (r ∷ rs)

pub record Loadable (rs : List Rule) : Type 0 where
  pub some : 1 ≤ length rs
  pub most : length rs ≤ 32
  pub allowed : (r : Rule) → Memᴰ r rs → Allowed r
  pub distinct : Distinct rs

-- a table as bytes; the second byte of a name's length is 0, as names have at most 64 bytes
unfoldable pub rule_bytes : Rule → List ℕ
rule_bytes r = length r.name ∷ 0 ∷ (r.name ++ (r.witnesses ∷ r.parents ∷ r.operation ∷ r.polarity ∷ []))

unfoldable pub each_rule : List Rule → List ℕ
each_rule [] = []
each_rule (r ∷ rs) = rule_bytes r ++ each_rule rs

unfoldable pub written : List Rule → List ℕ
written rs = length rs ∷ each_rule rs

-- a name given twice: after a count, some rules that a table may hold, and then one whose name one of them has, whatever follows
pub record Twice (s : List ℕ) : Type 0 where
  pub count : ℕ
  pub some : 1 ≤ count
  pub most : count ≤ 32
  pub before : List Rule
  pub fewer : length before < count
  pub rule : Rule
  pub rest : List ℕ
  pub bytes : s ≡ count ∷ (each_rule before ++ (rule_bytes rule ++ rest))
  pub allowed : (r : Rule) → Memᴰ r before → Allowed r
  pub distinct : Distinct before
  pub rule_allowed : Allowed rule
  pub earlier : Rule
  pub there : Memᴰ earlier before
  pub twice : rule.name ≡ earlier.name
