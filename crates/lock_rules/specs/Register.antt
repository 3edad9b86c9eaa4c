-- Claims and releases. Document 02, Slip 2.
use Rattle.std.specs.Prelude.{ℕ, ◌+◌, ◌≡◌, Bool, true, false, cond, not, ◌||◌, length, leb, eqb}
use mathlib.Core.List.{List, [], ◌∷◌, ◌++◌, map, Memᴰ}
use Rattle.local_format.specs.Out.{Out, ok, refused, check, ◌>>=◌, ◌>>◌}
use Rattle.semcode_records.specs.Path.{Path}
use Rattle.semcode_decode.specs.Block.{Block}
use Rattle.lock_rules.specs.Lock.{Lock, lock_of, touches, hinders}

-- whether the test holds of some element
unfoldable pub any : {A : Type 0} → (A → Bool) → List A → Bool
any f [] = false
any f (x ∷ xs) = f x || any f xs

-- the elements of which it holds, in their order
unfoldable pub keep : {A : Type 0} → (A → Bool) → List A → List A
keep f [] = []
keep f (x ∷ xs) = cond (f x) (x ∷ keep f xs) (keep f xs)

-- the paths of a block, in its order
abbrev pub paths_of : Block → List Path
paths_of b = map (λ e. e.value) b.ownership.table.entries

abbrev pub long_path : Path → Bool
long_path p = not (leb (length p.components.entries) 16)

-- drops exactly what an owner holds
unfoldable pub release : {R : Type 0} → ℕ → List (Lock R) → List (Lock R)
release owner held = keep (λ l. not (eqb l.owner owner)) held

-- a claim, and what it brings: what a symbol stands for, the owner, the block; or a release
pub data Step (R : Type 0) : Type 0 where
  claims : (ℕ → R) → ℕ → Out Block → Step R
  releases : ℕ → Step R

-- a refused claim changes no lock
abbrev pub held_after : {R : Type 0} → List (Lock R) → Out (List (Lock R)) → List (Lock R)
held_after held (ok after) = after
held_after held (refused r) = held

-- what is told of a claim: how many locks are held afterwards
abbrev pub held_count : {R : Type 0} → Out (List (Lock R)) → Out ℕ
held_count x = do
  after ← x
  ok (length after)

module _ {R : Type 0} (same : R → R → Bool) where
  -- whether a path of an owner touches a lock of another, and either is a write
  abbrev pub hindered : (ℕ → R) → ℕ → List (Lock R) → Path → Bool
  hindered root_of owner held p = any (λ l. hinders same l (lock_of root_of owner p)) held

  -- the locks held afterwards: those before, and one for each path
  unfoldable pub claimed : (ℕ → R) → ℕ → List (Lock R) → List Path → Out (List (Lock R))
  claimed root_of owner held paths = do
    check (not (any long_path paths)) 66 0
    check (not (any (hindered root_of owner held) paths)) 67 0
    check (leb (length held + length paths) 256) 68 0
    ok (held ++ map (lock_of root_of owner) paths)

  -- the block is decoded first, with its refusals
  abbrev pub claim : (ℕ → R) → ℕ → List (Lock R) → Out Block → Out (List (Lock R))
  claim root_of owner held decoded = do
    b ← decoded
    claimed root_of owner held (paths_of b)

  -- ---- Sequences

  abbrev pub stepped : List (Lock R) → Step R → List (Lock R)
  stepped held (claims root_of owner decoded) = held_after held (claim root_of owner held decoded)
  stepped held (releases owner) = release owner held

  -- what a step is answered: how many locks are held afterwards, or the refusal
  abbrev pub answer : List (Lock R) → Step R → Out ℕ
  answer held (claims root_of owner decoded) = held_count (claim root_of owner held decoded)
  answer held (releases owner) = ok (length (release owner held))

  unfoldable pub answers : List (Lock R) → List (Step R) → List (Out ℕ)
  answers held [] = []
  answers held (s ∷ steps) = answer held s ∷ answers (stepped held s) steps

  unfoldable pub reached : List (Lock R) → List (Step R) → List (Lock R)
  reached held [] = held
  reached held (s ∷ steps) = reached (stepped held s) steps

  -- no write touches a lock of another owner
  abbrev pub Safe : List (Lock R) → Type 0
  Safe held = (a b : Lock R) → Memᴰ a held → Memᴰ b held → a.write ≡ true → touches same a b ≡ true → a.owner ≡ b.owner
