-- A proposition record, and the order of propositions.
use Rattle.std.specs.Prelude.{ℕ, List, [], ◌∷◌, Bool, true, false, cond, ltb}
use Rattle.local_format.specs.Out.{Out, ok, check, ◌>>=◌, ◌>>◌}
use Rattle.local_format.specs.Text.{Span, bytes_at, section_field, text_at}
use Rattle.evr0_section.specs.Rows.{Sized, Row}

-- the kind as a text at its place in the record
pub record Proposition : Type 0 where
  pub kind : Span
  pub owner : ℕ
  pub scope : ℕ
  pub type : ℕ

-- the proposition at the front of s
unfoldable pub proposition_of : List ℕ → Out (Sized Proposition)
proposition_of s = do
  kind ← text_at s 0
  owner ← section_field 4 s kind.next
  scope ← section_field 4 s owner.next
  type ← section_field 4 s scope.next
  ok (record { item = record { kind = kind; owner = owner.value; scope = scope.value; type = type.value }; size = type.next })

-- ---- The order: by kind's bytes, then owner, scope, type

pub data Order : Type 0 where
  less equal greater : Order

-- the first order that is not equal
abbrev pub and_then : Order → Order → Order
and_then less o = less
and_then equal o = o
and_then greater o = greater

unfoldable pub compare : ℕ → ℕ → Order
compare a b = cond (ltb a b) less (cond (ltb b a) greater equal)

-- lexicographic
unfoldable pub compare_bytes : List ℕ → List ℕ → Order
compare_bytes [] [] = equal
compare_bytes [] (y ∷ ys) = less
compare_bytes (x ∷ xs) [] = greater
compare_bytes (x ∷ xs) (y ∷ ys) = and_then (compare x y) (compare_bytes xs ys)

pub record Key : Type 0 where
  pub kind : List ℕ
  pub owner : ℕ
  pub scope : ℕ
  pub type : ℕ

-- the key of a proposition at the front of s
abbrev pub key_of : List ℕ → Proposition → Key
key_of s r = record { kind = bytes_at s r.kind.start r.kind.len; owner = r.owner; scope = r.scope; type = r.type }

unfoldable pub compare_keys : Key → Key → Order
compare_keys a b =
    and_then (compare_bytes a.kind b.kind)
    (and_then (compare a.owner b.owner) (and_then (compare a.scope b.scope) (compare a.type b.type)))

abbrev pub is_less : Order → Bool
is_less less = true
is_less equal = false
is_less greater = false

-- ---- The table's row

-- the proposition before, if there is one
pub data Before : Type 0 where
  first : Before
  after : Key → Before

unfoldable pub rises : Before → Key → Bool
rises first b = true
rises (after a) b = is_less (compare_keys a b)

unfoldable pub proposition_row : Before → List ℕ → Out (Row Proposition Before)
proposition_row before s = do
  r ← proposition_of s
  check (rises before (key_of s r.item)) 16 0
  ok (record { item = r.item; size = r.size; state = after (key_of s r.item) })
