-- Records that stand one after the other.
use Rattle.std.specs.Prelude.{ℕ, zero, suc, List, [], ◌∷◌}
use Rattle.local_format.specs.Out.{Out, ok, ◌>>=◌}

-- what was read, and the place after it
pub record Taken (A : Type 0) : Type 0 where
  pub value : A
  pub next : ℕ

abbrev pub taken : {A : Type 0} → A → ℕ → Out (Taken A)
taken value next = ok (record { value = value; next = next })

-- the place after it
abbrev pub next_of : {A : Type 0} → Out (Taken A) → Out ℕ
next_of x = do
  t ← x
  ok t.next

-- a record of a table: the place of its first byte, what it holds, and the place after it
pub record Entry (A : Type 0) : Type 0 where
  pub start : ℕ
  pub value : A
  pub next : ℕ

-- records one after the other: the place of the first, the records, and the place after the last
pub record Table (A : Type 0) : Type 0 where
  pub start : ℕ
  pub entries : List (Entry A)
  pub end : ℕ

abbrev pub no_records : {A : Type 0} → ℕ → Table A
no_records at = record { start = at; entries = []; end = at }

-- a record in front of those after it
abbrev pub before : {A : Type 0} → Entry A → Table A → Table A
before e t = record { start = e.start; entries = e ∷ t.entries; end = t.end }

-- so many records from a place on, as this reader reads each
unfoldable pub records : {A : Type 0} → (ℕ → Out (Taken A)) → ℕ → ℕ → Out (Table A)
records read zero at = ok (no_records at)
records read (suc count) at = do
  first ← read at
  rest ← records read count first.next
  ok (before (record { start = at; value = first.value; next = first.next }) rest)

-- the place after the last
abbrev pub ends : {A : Type 0} → Out (Table A) → Out ℕ
ends x = do
  t ← x
  ok t.end
