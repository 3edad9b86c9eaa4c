-- A table: records one after the other, each read off the front of what is left of the payload.
use Rattle.std.specs.Prelude.{ℕ, zero, suc, ◌+◌, List, [], ◌∷◌, map, drop}
use Rattle.local_format.specs.Out.{Out, ok, ◌>>=◌, moved}

-- what was read off the front of a part, and how many bytes it takes
pub record Sized (A : Type 0) : Type 0 where
  pub item : A
  pub size : ℕ

-- a record that passed its own checks, and what the next one is checked against
pub record Row (A S : Type 0) : Type 0 where
  pub item : A
  pub size : ℕ
  pub state : S

-- a record of a table and where it starts in the payload
pub record Entry (A : Type 0) : Type 0 where
  pub start : ℕ
  pub item : A

-- a table: its records, the state after the last, and the place after it
pub record Rows (A S : Type 0) : Type 0 where
  pub entries : List (Entry A)
  pub state : S
  pub next : ℕ

module _ {A S : Type 0} (row : S → List ℕ → Out (Row A S)) where
  -- the next n records of the payload p, from a place on
  unfoldable pub rows : ℕ → S → List ℕ → ℕ → Out (Rows A S)
  rows zero state p at = ok (record { entries = []; state = state; next = at })
  rows (suc n) state p at = do
    r ← moved at (row state (drop at p))
    rest ← rows n r.state p (at + r.size)
    ok (record { entries = record { start = at; item = r.item } ∷ rest.entries; state = rest.state; next = rest.next })

-- where its records start
abbrev pub starts_of : {A : Type 0} → List (Entry A) → List ℕ
starts_of es = map (λ e. e.start) es
