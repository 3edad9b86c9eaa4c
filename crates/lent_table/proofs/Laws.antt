-- Laws of a lent table: what one with some front and then zeros is, and what its entries are.
use Prim.Native.Nat.{ℕ, ◌-◌, ◌<◌}
use mathlib.Core.Path.{◌≡◌}
use mathlib.Core.List.{List}
use native.Mathlib.Omega.{arith}
use lib.ListN.{length, take, replicate, get_or, length-append, get_or-append}
use Rattle.lent_table.specs.Lent.{lent, Front}

-- a table that begins with some numbers and is cleared after them
pub front_lent : (n entries : ℕ) (t vs : List ℕ) → length t ≡ entries → length vs ≡ n → Front vs t → lent (length t) (take n t) ≡ lent entries vs
front_lent n entries t vs l m e = let f : take n t ≡ vs = rw m at e in rw (f, l)

-- an entry of a lent table
pub lent_entry : (n i : ℕ) (xs : List ℕ) → i < length xs → (i < length (lent n xs)) × (get_or (lent n xs) i 0 ≡ get_or xs i 0)
lent_entry n i xs h = (simp length-append (omega arith), get_or-append xs (replicate (n - length xs) 0) 0 i h)
