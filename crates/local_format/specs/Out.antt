-- What a reader answers: a value, or a refusal.
use Rattle.std.specs.Prelude.{ℕ, ◌+◌, min, Bool, true, false}
use Rattle.local_format.specs.Refusal.{Kind, Refusal, refusal}

pub data Out (A : Type 0) : Type 0 where
  ok : A → Out A
  refused : Refusal → Out A

-- each step goes on only with the value of the step before
infixl 20 ◌>>=◌ ◌>>◌
abbrev pub ◌>>=◌ : {A B : Type 0} → Out A → (A → Out B) → Out B
◌>>=◌ (ok a) f = f a
◌>>=◌ (refused r) f = refused r

abbrev pub ◌>>◌ : {A B : Type 0} → Out A → Out B → Out B
◌>>◌ (ok a) b = b
◌>>◌ (refused r) b = refused r

-- the refusal with this number at this offset
abbrev pub refuse : {A : Type 0} → ℕ → ℕ → Out A
refuse n at = refused (refusal n at)

-- on where the test holds; else the refusal with this number at this offset
abbrev pub check : Bool → ℕ → ℕ → Out (Unit {0})
check true n at = ok tt
check false n at = refuse n at

-- the same of a refusal whose kind does not follow from its number
abbrev pub check_as : Kind → Bool → ℕ → ℕ → Out (Unit {0})
check_as kind true n at = ok tt
check_as kind false n at = refused (record { kind = kind; number = n; offset = at })

-- ---- From a place in a part to an offset in the whole

-- the same refusal with another offset
abbrev pub at_offset : Refusal → ℕ → Refusal
at_offset r at = record { kind = r.kind; number = r.number; offset = at }

-- the answer of a part that starts at a place of the whole: a refusal's offset is the exact sum
abbrev pub moved : {A : Type 0} → ℕ → Out A → Out A
moved start (ok a) = ok a
moved start (refused r) = refused (at_offset r (start + r.offset))

-- the sum of base and place, held at the largest 64-bit number
unfoldable pub held : ℕ → ℕ → ℕ
held base at = min (base + at) 18446744073709551615

-- the answer of a block at a base: a refusal's offset is the sum, held
abbrev pub based : {A : Type 0} → ℕ → Out A → Out A
based base (ok a) = ok a
based base (refused r) = refused (at_offset r (held base r.offset))
