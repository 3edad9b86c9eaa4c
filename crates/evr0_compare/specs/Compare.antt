-- Two sections held against each other (document 02, Slip 11).
use Rattle.std.specs.Prelude.{ℕ, suc, ◌+◌, ◌≤◌, ◌≡◌, Bool, true, false, cond, leb, eqb, length, drop}
use mathlib.Core.List.{List, [], ◌∷◌, map, Memᴰ}
use Rattle.local_format.specs.Refusal.{Refusal}
use Rattle.local_format.specs.Out.{Out, ok, refused, check, ◌>>◌}
use Rattle.local_format.specs.Field.{le}
use Rattle.local_format.specs.Tag as tag
use Rattle.local_format.specs.Text.{bytes_at}
use Rattle.derivation.specs.Section as derivation
use Rattle.derivation.specs.Friendly as friendly
use Rattle.evr0_section.specs.Rows.{Entry}
use Rattle.evr0_section.specs.Head.{Room}
use Rattle.evr0_section.specs.Proposition.{Proposition, Key, key_of, Order, less, equal, greater, compare_keys}
use Rattle.evr0_section.specs.Section.{Tables, Section, section_of}
use Rattle.rule_table.specs.ByTable.{Given, rules_given, decode_by}

-- ---- A section's propositions

-- a proposition's key, and whether it is authorised
pub record Standing : Type 0 where
  pub key : Key
  pub authorised : Bool

-- the propositions of the payload p, from the number n on
unfoldable pub standings_from : List ℕ → derivation.Section → ℕ → List (Entry Proposition) → List Standing
standings_from p s n [] = []
standings_from p s n (e ∷ es) =
    record { key = key_of (drop e.start p) e.item; authorised = friendly.authorised s n } ∷ standings_from p s (suc n) es

abbrev pub standings : List ℕ → Tables → List Standing
standings p t = standings_from p (section_of t) 0 t.propositions.entries

-- ---- The list

pub data Verdict : Type 0 where
  agreed contradicted first_only second_only : Verdict

-- the byte of the lent table
abbrev pub code : Verdict → ℕ
code agreed = 1
code contradicted = 2
code first_only = 3
code second_only = 4

-- of a proposition in both: agreed where it is authorised in both or in neither
abbrev pub of_both : Bool → Bool → Verdict
of_both true true = agreed
of_both true false = contradicted
of_both false true = contradicted
of_both false false = agreed

pub record Listed : Type 0 where
  pub key : Key
  pub verdict : Verdict

abbrev pub only : Verdict → Standing → Listed
only v x = record { key = x.key; verdict = v }

abbrev pub matched : Standing → Standing → Listed
matched x y = record { key = x.key; verdict = of_both x.authorised y.authorised }

abbrev pub by_order : {A : Type 0} → Order → A → A → A → A
by_order less a b c = a
by_order equal a b c = b
by_order greater a b c = c

-- x, before the other propositions of the first section, against those of the second; `rest` lists the others against what is left
unfoldable pub against : Standing → (List Standing → List Listed) → List Standing → List Listed
against x rest [] = only first_only x ∷ rest []
against x rest (y ∷ ys) =
    let first : List Listed = only first_only x ∷ rest (y ∷ ys) in
    let both : List Listed = matched x y ∷ rest ys in
    let second : List Listed = only second_only y ∷ against x rest ys in
    by_order (compare_keys x.key y.key) first both second

-- the propositions of two sections, both in proposition order
unfoldable pub compared : List Standing → List Standing → List Listed
compared [] ys = map (only second_only) ys
compared (x ∷ xs) ys = against x (compared xs) ys

-- how many have this verdict
unfoldable pub total : Verdict → List Listed → ℕ
total v [] = 0
total v (l ∷ ls) = cond (eqb (code l.verdict) (code v)) 1 0 + total v ls

-- ---- Two sections

-- a section as it is lent: the lengths of its lent tables, bytes and a cursor
pub record Input : Type 0 where
  pub room : Room
  pub bytes : List ℕ
  pub cursor : ℕ

abbrev pub decoded : Given → Input → Out Section
decoded given x = decode_by given x.room x.bytes x.cursor

abbrev pub payload : Input → List ℕ
payload x = bytes_at x.bytes (x.cursor + 8) (le 4 x.bytes (x.cursor + 4))

-- where its source set stands, behind tag, payload length, schema and flags
abbrev pub source_set_at : Input → ℕ
source_set_at x = x.cursor + 12

pub record Comparison : Type 0 where
  pub first : Section
  pub second : Section
  pub list : List Listed

abbrev pub list_of : Input → Section → Input → Section → List Listed
list_of x a y b = compared (standings (payload x) a.tables) (standings (payload y) b.tables)

-- of two accepted sections: 74, then 61 for the lent table of bytes, which has room for `entries`
unfoldable pub pair_of : Input → Section → Input → Section → ℕ → Out Comparison
pair_of x a y b entries = do
  check (tag.equal a.tables.head.source_set b.tables.head.source_set) 74 (source_set_at y)
  check (leb (length (list_of x a y b)) entries) 61 0
  ok (record { first = a; second = b; list = list_of x a y b })

-- whose refusal it is: that of the table of rules, of the first section, of the second, or of the pair
pub data Answer (A : Type 0) : Type 0 where
  rules_refused first_refused second_refused pair_refused : Refusal → Answer A
  held : A → Answer A

unfoldable pub answered : {A B : Type 0} → (Refusal → Answer B) → (A → Answer B) → Out A → Answer B
answered whose go (ok a) = go a
answered whose go (refused r) = whose r

-- one table of rules for both sections; its refusal, the first section's, the second's, then the pair's
unfoldable pub compare_by : Given → Input → Input → ℕ → Answer Comparison
compare_by given x y entries =
    let pair : Section → Section → Answer Comparison = λ a b. answered pair_refused held (pair_of x a y b entries) in
    let second : Section → Answer Comparison = λ a. answered second_refused (pair a) (decoded given y) in
    answered rules_refused (λ rules. answered first_refused second (decoded given x)) (rules_given given)

-- ---- What a caller is given

-- the four totals
pub record Tally : Type 0 where
  pub agreed : ℕ
  pub contradicted : ℕ
  pub first_only : ℕ
  pub second_only : ℕ

abbrev pub tally_of : List Listed → Tally
tally_of ls = record { agreed = total agreed ls; contradicted = total contradicted ls; first_only = total first_only ls; second_only = total second_only ls }

abbrev pub told : Answer Comparison → Answer Tally
told (rules_refused r) = rules_refused r
told (first_refused r) = first_refused r
told (second_refused r) = second_refused r
told (pair_refused r) = pair_refused r
told (held c) = held (tally_of c.list)

abbrev pub is_held : {A : Type 0} → Answer A → Bool
is_held (rules_refused r) = false
is_held (first_refused r) = false
is_held (second_refused r) = false
is_held (pair_refused r) = false
is_held (held a) = true

-- what is held, or a refusal, whosever
abbrev pub held_in : {A : Type 0} → Answer A → Out A
held_in (rules_refused r) = refused r
held_in (first_refused r) = refused r
held_in (second_refused r) = refused r
held_in (pair_refused r) = refused r
held_in (held a) = ok a

-- the two sections and the bytes of the list; a refusal has none
abbrev pub first_of : Out Comparison → Out Section
first_of (ok c) = ok c.first
first_of (refused r) = refused r

abbrev pub second_of : Out Comparison → Out Section
second_of (ok c) = ok c.second
second_of (refused r) = refused r

abbrev pub codes : List Listed → List ℕ
codes ls = map (λ l. code l.verdict) ls

abbrev pub list_bytes : Out Comparison → List ℕ
list_bytes (ok c) = codes c.list
list_bytes (refused r) = []

-- ---- The order of keys

abbrev pub turned : Order → Order
turned less = greater
turned equal = equal
turned greater = less

pub record StrictTotal {A : Type 0} (f : A → A → Order) : Type 0 where
  pub self : (a : A) → f a a ≡ equal
  pub same : (a b : A) → f a b ≡ equal → a ≡ b
  pub back : (a b : A) → f b a ≡ turned (f a b)
  pub trans : (a b c : A) → f a b ≡ less → f b c ≡ less → f a c ≡ less

-- ---- What the list is, without the merge

abbrev pub Below : Key → Key → Type 0
Below a b = compare_keys a b ≡ less

-- proposition order: each key is below those of all later entries
pub data Rising {A : Type 0} (key : A → Key) : List A → Type 0 where
  none : Rising key []
  also : {x : A} {xs : List A} → ((y : A) → Memᴰ y xs → Below (key x) (key y)) → Rising key xs → Rising key (x ∷ xs)

abbrev pub standing_key : Standing → Key
standing_key x = x.key

abbrev pub listed_key : Listed → Key
listed_key l = l.key

-- what an entry says of two sections: in both, or in one and not in the other
pub data Judged (xs ys : List Standing) (l : Listed) : Type 0 where
  in_both : (x y : Standing) → Memᴰ x xs → Memᴰ y ys → x.key ≡ l.key → y.key ≡ l.key
      → l.verdict ≡ of_both x.authorised y.authorised → Judged xs ys l
  in_first : (x : Standing) → Memᴰ x xs → x.key ≡ l.key → ((y : Standing) → Memᴰ y ys → y.key ≡ l.key → ⊥)
      → l.verdict ≡ first_only → Judged xs ys l
  in_second : (y : Standing) → Memᴰ y ys → y.key ≡ l.key → ((x : Standing) → Memᴰ x xs → x.key ≡ l.key → ⊥)
      → l.verdict ≡ second_only → Judged xs ys l

-- the other way round
abbrev pub exchanged : Verdict → Verdict
exchanged agreed = agreed
exchanged contradicted = contradicted
exchanged first_only = second_only
exchanged second_only = first_only

abbrev pub exchanged_in : Listed → Listed
exchanged_in l = record { key = l.key; verdict = exchanged l.verdict }

-- some entry has this key
abbrev pub Found : Key → List Listed → Type 0
Found k ls = (l : Listed) × Memᴰ l ls × (l.key ≡ k)

pub record ListedAll (xs ys : List Standing) (ls : List Listed) : Type 0 where
  pub order : Rising listed_key ls
  pub first : (x : Standing) → Memᴰ x xs → Found x.key ls
  pub second : (y : Standing) → Memᴰ y ys → Found y.key ls
  pub each : (l : Listed) → Memᴰ l ls → Judged xs ys l

-- the four totals
pub record Totals (xs ys : List Standing) (ls : List Listed) : Type 0 where
  pub first : total agreed ls + total contradicted ls + total first_only ls ≡ length xs
  pub second : total agreed ls + total contradicted ls + total second_only ls ≡ length ys
  pub all : total agreed ls + total contradicted ls + total first_only ls + total second_only ls ≡ length ls

-- of two sections that are compared: both are accepted, their source sets are the same, and the list is theirs, with its totals
pub record ComparisonOf (given : Given) (x y : Input) (entries : ℕ) (c : Comparison) : Type 0 where
  pub first : decoded given x ≡ ok c.first
  pub second : decoded given y ≡ ok c.second
  pub source_set : c.first.tables.head.source_set ≡ c.second.tables.head.source_set
  pub list : c.list ≡ list_of x c.first y c.second
  pub listed : ListedAll (standings (payload x) c.first.tables) (standings (payload y) c.second.tables) c.list
  pub only : (ls : List Listed) → ListedAll (standings (payload x) c.first.tables) (standings (payload y) c.second.tables) ls → ls ≡ c.list
  pub of_first : total agreed c.list + total contradicted c.list + total first_only c.list ≡ c.first.tables.head.counts.propositions
  pub of_second : total agreed c.list + total contradicted c.list + total second_only c.list ≡ c.second.tables.head.counts.propositions
  pub fits : length c.list ≤ entries
