-- Forms: how values are written as bytes, and how they are read off the front of bytes.
use Rattle.std.specs.Prelude.{ℕ, zero, suc, ◌-◌, List, [], ◌∷◌, ◌++◌, length, eqb}
use Rattle.local_format.specs.Out.{Out, ok, check, ◌>>=◌, ◌>>◌}
use Rattle.groups.specs.Groups.{Read}

-- `get` reads off the front of what is left of a file, and is told the whole file's length: the first byte left stands at it less what is left
pub record Form (A : Type 0) : Type 0 where
  pub put : A → List ℕ
  pub get : ℕ → List ℕ → Out (Read A)

-- no bytes
abbrev pub nothing : Form (Unit {0})
nothing = record { put = λ u. []; get = λ end c. ok (record { value = tt; rest = c }) }

-- one value, then another, whose form may depend on the first
abbrev pub and_then : {A : Type 0} {B : A → Type 0} → Form A → ((a : A) → Form (B a)) → Form ((a : A) × B a)
and_then first second =
    record {
      put = λ v. first.put v.0 ++ (second v.0).put v.1;
      get = λ end c. do
        a ← first.get end c
        b ← (second a.value).get end a.rest
        ok (record { value = (a.value, b.value); rest = b.rest });
    }

-- the bytes of each value, one after the other
unfoldable pub each : {A : Type 0} → (A → List ℕ) → List A → List ℕ
each f [] = []
each f (x ∷ xs) = f x ++ each f xs

-- so many values, one after the other
unfoldable pub get_many : {A : Type 0} → Form A → ℕ → ℕ → List ℕ → Out (Read (List A))
get_many form zero end c = ok (record { value = []; rest = c })
get_many form (suc n) end c = do
  a ← form.get end c
  more ← get_many form n end a.rest
  ok (record { value = a.value ∷ more.value; rest = more.rest })

abbrev pub many : {A : Type 0} → ℕ → Form A → Form (List A)
many n form = record { put = each form.put; get = get_many form n }

-- the same bytes for other values
abbrev pub through : {A B : Type 0} → (B → A) → (A → B) → Form A → Form B
through out back form =
    record {
      put = λ b. form.put (out b);
      get = λ end c. do
        a ← form.get end c
        ok (record { value = back a.value; rest = a.rest });
    }

-- a whole file: 76 at the first byte left over
unfoldable pub whole : {A : Type 0} → Form A → List ℕ → Out A
whole form c = do
  a ← form.get (length c) c
  check (eqb (length a.rest) 0) 76 (length c - length a.rest)
  ok a.value

-- a file in one form, written in another
unfoldable pub rewritten : {A : Type 0} → Form A → Form A → List ℕ → Out (List ℕ)
rewritten from to c = do
  a ← whole from c
  ok (to.put a)
