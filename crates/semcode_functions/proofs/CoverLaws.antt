-- Stretches that stand one after the other cover what lies between the first and the last.
use mathlib.Core.Path.{◌≡◌, refl, ap}
use Prim.Native.Nat.{ℕ, zero, suc, ◌+◌, ◌-◌, ◌≤◌, ◌<◌}
use native.Mathlib.Omega.{arith}
use mathlib.Core.List.{List, [], ◌∷◌}
use mathlib.Core.Bool.{Bool, true, false}
use lib.ListN.{length, get_or}
use lib.Dec.{ltb}
use borrow.Author.Tests.{ltb-true, ltb-false}
use Rattle.local_format.specs.Out.{ok}
use Rattle.semcode_records.specs.Records.{Entry}
use Rattle.semcode_decode.specs.Block.{Rooms}
use Rattle.semcode_functions.specs.Function.{Function, decode_functions}
use Rattle.semcode_functions.specs.Cover.{Stretch, nowhere, stretches, In, One, Covered}
use Rattle.semcode_functions.proofs.FunctionLaws.{head_ok, function_ok, Row, none, one, row, none_left_lem}

-- one after the other, from a place to a place
data Chain : ℕ → List Stretch → ℕ → Type 0 where
  nil : {to : ℕ} → Chain to [] to
  then : {from to : ℕ} {x : Stretch} {xs : List Stretch} → x.start ≡ from → Chain (from + x.len) xs to → Chain from (x ∷ xs) to

chain_le : {from to : ℕ} {xs : List Stretch} → Chain from xs to → from ≤ to
chain_le nil = omega arith
chain_le (then e c) = let h = chain_le c in omega arith

chain_within : {from to : ℕ} {xs : List Stretch} → Chain from xs to → (i : ℕ) → i < length xs → (p : ℕ) → In (get_or xs i nowhere) p
    → (from ≤ p) × (p < to)
chain_within nil i l p h = absurd (omega arith)
chain_within (then e c) zero l p h = let m = chain_le c in (omega (arith, h.from), omega (arith, h.upto))
chain_within (then e c) (suc i) l p h = let w = chain_within c i (omega arith) p h in (omega (arith, w.0), w.1)

one_here : {from to : ℕ} {x : Stretch} {xs : List Stretch} → x.start ≡ from → Chain (from + x.len) xs to → (p : ℕ) → from ≤ p
    → p < from + x.len → One (x ∷ xs) p
one_here {from} {to} {x} {xs} e c p l m = record { number = 0; there = omega arith; has = record { from = omega arith; upto = omega arith }; only = only }
  where
    only : (i : ℕ) → i < suc (length xs) → In (get_or (x ∷ xs) i nowhere) p → i ≡ 0
    only zero k h = refl
    only (suc i) k h = let w = chain_within c i (omega arith) p h in absurd (omega (arith, w.0))

one_later : {from : ℕ} {x : Stretch} {xs : List Stretch} → x.start ≡ from → (p : ℕ) → from + x.len ≤ p → One xs p → One (x ∷ xs) p
one_later {from} {x} {xs} e p l o = record { number = suc o.number; there = omega (arith, o.there); has = o.has; only = only }
  where
    only : (i : ℕ) → i < suc (length xs) → In (get_or (x ∷ xs) i nowhere) p → i ≡ suc o.number
    only zero k h = absurd (omega (arith, h.upto))
    only (suc i) k h = ap suc (o.only i (omega arith) h)

split : {from to : ℕ} {x : Stretch} {xs : List Stretch} → x.start ≡ from → Chain (from + x.len) xs to → (p : ℕ) → from ≤ p
    → (from + x.len ≤ p → One xs p) → One (x ∷ xs) p
split {from} {to} {x} {xs} e c p l rest = go (ltb p (from + x.len)) refl
  where
    go : (b : Bool) → ltb p (from + x.len) ≡ b → One (x ∷ xs) p
    go true h = one_here e c p l (ltb-true _ _ h)
    go false h = one_later e p (ltb-false _ _ h) (rest (ltb-false _ _ h))

chain_one : {from to : ℕ} {xs : List Stretch} → Chain from xs to → (p : ℕ) → from ≤ p → p < to → One xs p
chain_one nil p l m = absurd (omega arith)
chain_one (then e c) p l m = split e c p l (λ k. chain_one c p k m)

chain_covers : {from to : ℕ} {xs : List Stretch} → Chain from xs to → Covered xs from to
chain_covers c = record { each = chain_one c; within = chain_within c }

-- ---- The functions of a file
module _ (revision : ℕ) (rooms : Rooms) (s : List ℕ) where
  both : {at code size next to : ℕ} {xs : List Stretch} → at ≤ code → next ≡ code + size → Chain next xs to
      → Chain at (record { start = at; len = code - at } ∷ record { start = code; len = size } ∷ xs) to
  both {at} {code} {size} {next} l e c =
      let u : code ≡ at + (code - at) = omega arith in
      let v : next ≡ at + (code - at) + size = omega arith in
      then refl (then u (rw v at c))

  row_ends : {at : ℕ} {fs : List (Entry Function)} → at ≤ length s → Row revision rooms s at fs → Chain at (stretches fs) (length s)
  unfolding stretches
  row_ends {at} l (none h) = let z : at ≡ length s = omega arith in rw z nil
  row_ends {at} l (one {t} h f rest) =
      let w = head_ok s at _ (function_ok revision rooms s at t f).0 in
      both w.0 w.1 (row_ends w.2 rest)

  -- heads and blocks cover the bytes from the cursor to the end, each once
  pub covered : (entries cursor : ℕ) (fs : List (Entry Function)) → cursor ≤ length s → decode_functions revision rooms entries s cursor ≡ ok fs
      → Covered (stretches fs) cursor (length s)
  covered entries cursor fs l e = chain_covers (row_ends l (row revision rooms s 1024 entries cursor fs e))

  -- a cursor at or past the end gives no functions
  pub none_past : (entries cursor : ℕ) → length s ≤ cursor → decode_functions revision rooms entries s cursor ≡ ok []
  none_past entries cursor h = none_left_lem revision rooms s 1024 entries cursor h
