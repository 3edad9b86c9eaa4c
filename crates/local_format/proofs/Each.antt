-- Whatever a reader answers has P, and whatever it refuses has Q: one law for each kind of step, so that `search steps` goes through a
-- whole definition. Each law says of the answer of a step all that is known of it.
use Prim.Native.Nat.{ℕ, ◌+◌, ◌≤◌, zero-le}
use mathlib.Core.Path.{◌≡◌, refl, sym}
use mathlib.Core.Bool.{Bool, true, false, cond}
use mathlib.Core.List.{List}
use lib.Dec.{leb}
use lib.ListN.{length}
use borrow.Author.Tests.{leb-true}
use Rattle.local_format.specs.Refusal.{Refusal, refusal}
use Rattle.local_format.specs.Out.{Out, ok, refused, check, at_offset, moved, ◌>>=◌, ◌>>◌}
use Rattle.local_format.specs.Field.{Got, whole, cut, le, field_at, or_cut, field}
use Rattle.utf8.specs.Utf8.{Decoded, points, ill}
use Rattle.local_format.specs.Text.{or_ill}
use Rattle.local_format.proofs.OutLaws.{never, ok_same, refused_same}

pub data Each {A : Type 0} (P : A → Type 0) (Q : Refusal → Type 0) : Out A → Type 0 where
  answers : {a : A} → P a → Each P Q (ok a)
  refuses : {r : Refusal} → Q r → Each P Q (refused r)

-- of what is refused nothing
abbrev pub always : Refusal → Type 0
always r = Unit {0}

-- of what is answered nothing
abbrev pub Refuses : {A : Type 0} → (Refusal → Type 0) → Out A → Type 0
Refuses {A} Q x = Each (λ (a : A). Unit {0}) Q x

-- a refusal that stands at a place up to `most` and has one of some numbers
pub record Within (most : ℕ) (number : ℕ → Bool) (r : Refusal) : Type 0 where
  pub offset : r.offset ≤ most
  pub numbered : number r.number ≡ true

pub within : (most : ℕ) (number : ℕ → Bool) (n at : ℕ) → at ≤ most → number n ≡ true → Within most number (refusal n at)
within most number n at h t = record { offset = h; numbered = t }

module _ {A : Type 0} {P : A → Type 0} {Q : Refusal → Type 0} where
  -- ---- What it says
  pub each_ok : {x : Out A} {a : A} → Each P Q x → x ≡ ok a → P a
  each_ok (answers h) e = rw (← ok_same e) h
  each_ok (refuses h) e = absurd (never e)

  pub each_refused : {x : Out A} {r : Refusal} → Each P Q x → x ≡ refused r → Q r
  each_refused (answers h) e = absurd (never (sym e))
  each_refused (refuses h) e = rw (← refused_same e) h

  pub each : (x : Out A) → ((a : A) → x ≡ ok a → P a) → ((r : Refusal) → x ≡ refused r → Q r) → Each P Q x
  each (ok a) h k = answers (h a refl)
  each (refused r) h k = refuses (k r refl)

  -- of an answer, also that it is the answer
  pub answered : (x : Out A) → Each P Q x → Each (λ a. (x ≡ ok a) × P a) (λ r. (x ≡ refused r) × Q r) x
  answered x h = go x h
    where
      go : (x : Out A) → Each P Q x → Each (λ a. (x ≡ ok a) × P a) (λ r. (x ≡ refused r) × Q r) x
      go (ok a) (answers h) = answers (refl, h)
      go (refused r) (refuses h) = refuses (refl, h)

  pub weaker : {P' : A → Type 0} {Q' : Refusal → Type 0} {x : Out A} → Each P Q x → ((a : A) → P a → P' a) → ((r : Refusal) → Q r → Q' r) → Each P' Q' x
  weaker (answers h) p q = answers (p _ h)
  weaker (refuses h) p q = refuses (q _ h)

  pub under : {Q' : Refusal → Type 0} {x : Out A} → Each P Q x → ((r : Refusal) → Q r → Q' r) → Each P Q' x
  under h q = weaker h (λ a p. p) q

  -- ---- Steps
  pub on : {B : Type 0} {P' : B → Type 0} {x : Out A} {f : A → Out B} → Each P Q x → ((a : A) → P a → Each P' Q (f a)) → Each P' Q (x >>= f)
  on (answers h) k = k _ h
  on (refuses h) k = refuses h

  pub then : {B : Type 0} {P' : B → Type 0} {x : Out A} {y : Out B} → Each P Q x → Each P' Q y → Each P' Q (x >> y)
  then (answers h) k = k
  then (refuses h) k = refuses h

  pub on_check : (t : Bool) (n at : ℕ) (y : Out A) → Q (refusal n at) → Each P Q y → Each P Q (check t n at >> y)
  on_check true n at y h k = k
  on_check false n at y h k = refuses h

  -- where the check is known to pass for what follows
  pub on_passed : (t : Bool) (n at : ℕ) (y : Out A) → (t ≡ false → Q (refusal n at)) → (t ≡ true → Each P Q y) → Each P Q (check t n at >> y)
  on_passed true n at y h k = k refl
  on_passed false n at y h k = refuses (h refl)

  pub on_field : (n width : ℕ) (s : List ℕ) (at : ℕ) (f : Got → Out A) → Q (refusal n at)
      → (at + width ≤ length s → Each P Q (f (record { value = le width s at; next = at + width }))) → Each P Q (field n width s at >>= f)
  unfolding field_at
  on_field n width s at f h k = go (leb (at + width) (length s)) refl
    where
      go : (t : Bool) → leb (at + width) (length s) ≡ t
          → Each P Q (or_cut n at (cond t (whole (record { value = le width s at; next = at + width })) cut) >>= f)
      go true e = k (leb-true (at + width) (length s) e)
      go false e = refuses h

  pub on_text : (n at : ℕ) (d : Decoded) (f : List ℕ → Out A) → Q (refusal n at) → ((cs : List ℕ) → Each P Q (f cs)) → Each P Q (or_ill n at d >>= f)
  on_text n at (points cs) f h k = k cs
  on_text n at ill f h k = refuses h

  -- steps within a step
  pub on_bind : {B C : Type 0} (x : Out B) (f : B → Out C) (g : C → Out A) → Each P Q (x >>= λ b. f b >>= g) → Each P Q ((x >>= f) >>= g)
  on_bind (ok b) f g h = h
  on_bind (refused r) f g h = h

  pub on_then : {B C : Type 0} (x : Out B) (y : Out C) (g : C → Out A) → Each P Q (x >> (y >>= g)) → Each P Q ((x >> y) >>= g)
  on_then (ok b) y g h = h
  on_then (refused r) y g h = h

  pub then_bind : {B C : Type 0} (x : Out B) (f : B → Out C) (y : Out A) → Each P Q (x >>= λ b. f b >> y) → Each P Q ((x >>= f) >> y)
  then_bind (ok b) f y h = h
  then_bind (refused r) f y h = h

  pub on_moved : {Q' : Refusal → Type 0} (k : ℕ) (x : Out A) → Each P Q x → ((r : Refusal) → Q r → Q' (at_offset r (k + r.offset))) → Each P Q' (moved k x)
  on_moved k x (answers h) q = answers h
  on_moved k x (refuses h) q = refuses (q _ h)

pub last_check : {Q : Refusal → Type 0} (t : Bool) (n at : ℕ) → (t ≡ false → Q (refusal n at)) → Refuses Q (check t n at)
last_check true n at h = answers tt
last_check false n at h = refuses (h refl)

pub ruleset steps = (tt, within, zero-le, answers, on_field, on_text, on_bind, on_then, then_bind, on_check)
