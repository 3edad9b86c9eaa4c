-- An answer with two digests beside it.
use Rattle.std.specs.Prelude.{List, ℕ, replicate}
use Rattle.local_format.specs.Out.{Out, ok, refused}

-- an answer and the two digests that stand beside it
pub record Beside (A : Type 0) : Type 0 where
  pub first : List ℕ
  pub second : List ℕ
  pub answer : Out A

-- what stands in a digest's place where the answer is a refusal
abbrev pub zeros : List ℕ
zeros = replicate 32 0

-- an answer with its digests
abbrev pub beside : {A : Type 0} → (A → List ℕ) → (A → List ℕ) → Out A → Beside A
beside first second (ok a) = record { first = first a; second = second a; answer = ok a }
beside first second (refused r) = record { first = zeros; second = zeros; answer = refused r }
