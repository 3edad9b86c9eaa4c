-- Laws of answers: what an answer says of its steps, and how offsets move from a part to the whole.
use mathlib.Core.Path.{◌≡◌, refl, ap, sym, ◌∙◌}
use mathlib.Core.Logic.{◌⊎◌, inl, inr}
use Prim.Native.Nat.{ℕ}
use native.Mathlib.Omega.{arith}
use mathlib.Core.Bool.{Bool, true, false}
use Rattle.local_format.specs.Refusal.{Refusal, refusal}
use Rattle.local_format.specs.Out.{Out, ok, refused, ◌>>=◌, ◌>>◌, check, moved, based}

-- what a callee's answer is, where a `let else` or a `match` has found the variant of its result
pub told : {R A : Type 0} (out : R → A) {r x : R} {a : A} → out r ≡ a → r ≡ x → a ≡ out x
told out e h = sym e ∙ ap out h

-- ---- Steps
module _ {A : Type 0} where
  pub never : {r : Refusal} {a : A} → refused r ≡ ok a → ⊥
  never e = let z : ◌≡◌ {A = ℕ} 0 1 = cc in omega arith

  pub ok_same : {a b : A} → ok a ≡ ok b → a ≡ b
  ok_same e = cc

  pub refused_same : {q r : Refusal} → ◌≡◌ {A = Out A} (refused q) (refused r) → q ≡ r
  refused_same e = cc

  module _ {B : Type 0} where
    -- the whole from its first step
    pub on_ok : {x : Out A} {a : A} (f : A → Out B) → x ≡ ok a → (x >>= f) ≡ f a
    on_ok f e = ap (λ (x : Out A). x >>= f) e

    pub on_refused : {x : Out A} {r : Refusal} (f : A → Out B) → x ≡ refused r → (x >>= f) ≡ refused r
    on_refused f e = ap (λ (x : Out A). x >>= f) e

    -- the steps from the whole
    pub bind_ok : (x : Out A) (f : A → Out B) {b : B} → (x >>= f) ≡ ok b → (a : A) × (x ≡ ok a) × (f a ≡ ok b)
    bind_ok (ok a) f e = (a, refl, e)
    bind_ok (refused r) f e = absurd (let z : ◌≡◌ {A = ℕ} 0 1 = cc in omega arith)

    pub bind_refused : (x : Out A) (f : A → Out B) {r : Refusal} → (x >>= f) ≡ refused r
        → (x ≡ refused r) ⊎ ((a : A) × (x ≡ ok a) × (f a ≡ refused r))
    bind_refused (ok a) f e = inr (a, refl, e)
    bind_refused (refused q) f e = inl (cc)

    pub then_ok : (x : Out A) (y : Out B) {b : B} → (x >> y) ≡ ok b → (a : A) × (x ≡ ok a) × (y ≡ ok b)
    then_ok (ok a) y e = (a, refl, e)
    then_ok (refused r) y e = absurd (let z : ◌≡◌ {A = ℕ} 0 1 = cc in omega arith)

-- ---- Checks
pub check_ok : (t : Bool) (n at : ℕ) {u : Unit {0}} → check t n at ≡ ok u → t ≡ true
check_ok true n at e = refl
check_ok false n at e = absurd (never e)

-- a check and what comes after it
pub checked_ok : {B : Type 0} (t : Bool) (n at : ℕ) (y : Out B) {b : B} → (check t n at >> y) ≡ ok b → (t ≡ true) × (y ≡ ok b)
checked_ok true n at y e = (refl, e)
checked_ok false n at y e = absurd (never e)

pub checked_refused : {B : Type 0} (t : Bool) (n at : ℕ) (y : Out B) {r : Refusal} → (check t n at >> y) ≡ refused r
    → ((t ≡ false) × (r ≡ refusal n at)) ⊎ ((t ≡ true) × (y ≡ refused r))
checked_refused true n at y e = inr (refl, e)
checked_refused false n at y e = inl (refl, sym (refused_same e))

-- ---- Offsets of a part
module _ {A : Type 0} where
  pub moved_ok : (k : ℕ) (x : Out A) {a : A} → moved k x ≡ ok a → x ≡ ok a
  moved_ok k (ok b) e = e
  moved_ok k (refused r) e = absurd (never e)

  pub based_ok : (base : ℕ) (x : Out A) {a : A} → based base x ≡ ok a → x ≡ ok a
  based_ok base (ok b) e = e
  based_ok base (refused r) e = absurd (never e)

  module _ {B : Type 0} where
    pub moved_bind : (k : ℕ) (x : Out A) (f : A → Out B) → moved k (x >>= f) ≡ (moved k x >>= λ a. moved k (f a))
    moved_bind k (ok a) f = refl
    moved_bind k (refused r) f = refl
