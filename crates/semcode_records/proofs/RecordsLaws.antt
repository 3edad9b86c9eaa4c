-- Laws of records that stand one after the other, whatever reader reads each: what the first of them decides.
use mathlib.Core.Path.{◌≡◌, refl, ap, sym, ◌∙◌}
use Prim.Native.Nat.{ℕ, zero, suc, ◌+◌, ◌-◌, ◌<◌}
use native.Mathlib.Omega.{arith}
use native.Mathlib.Numerals.{add-one}
use mathlib.Core.List.{map}
use lib.ListN.{length}
use Rattle.local_format.specs.Refusal.{Refusal}
use Rattle.local_format.specs.Out.{Out, ok, refused, ◌>>=◌}
use Rattle.local_format.proofs.OutLaws.{never, refused_same, bind_ok, ok_same}
use Rattle.std.specs.Prelude.{Result}
use Rattle.local_format.specs.declared.refusal.Refusal as code
use Rattle.semcode_records.specs.Maps.{Tells}
use Rattle.semcode_records.specs.Records.{Taken, taken, next_of, Entry, Table, no_records, before, records, ends}

-- what the place after a record says of the record
pub next_refused : {A : Type 0} (x : Out (Taken A)) {r : Refusal} → next_of x ≡ refused r → x ≡ refused r
next_refused (ok t) e = absurd (never (sym e))
next_refused (refused q) e = ap refused (refused_same e)

pub next_read : {A : Type 0} (x : Out (Taken A)) {n : ℕ} → next_of x ≡ ok n → (a : A) × (x ≡ taken a n)
next_read (ok t) e = (t.value, ap (taken t.value) (ok_same e))
next_read (refused r) e = absurd (never e)

pub ends_before : {A : Type 0} (e : Entry A) (x : Out (Table A)) → ends (x >>= λ t. ok (before e t)) ≡ ends x
ends_before e (ok t) = refl
ends_before e (refused r) = refl

module _ {A : Type 0} (read : ℕ → Out (Taken A)) where
  -- none is left
  pub none_left_lem : (at : ℕ) → records read 0 at ≡ ok (no_records at)
  unfolding records
  none_left_lem at = refl

  -- where i of count records are read, and one more is due
  module _ (count i at : ℕ) (more : i < count) where
    pub first_refused_lem : {r : Refusal} → read at ≡ refused r → records read (count - i) at ≡ refused r
    unfolding records
    first_refused_lem e =
        let left : count - i ≡ suc (count - suc i) = omega arith in
        rw (left, e)

    pub first_read : {t : Taken A} → read at ≡ ok t
        → records read (count - i) at
        ≡ (records read (count - (i + 1)) t.next >>= λ rest. ok (before (record { start = at; value = t.value; next = t.next }) rest))
    unfolding records
    first_read e =
        let left : count - i ≡ suc (count - suc i) = omega arith in
        rw (left, e, add-one)

    pub ends_on : {t : Taken A} → read at ≡ ok t → ends (records read (count - i) at) ≡ ends (records read (count - (i + 1)) t.next)
    ends_on {t} e =
        ap ends (first_read e) ∙ ends_before (record { start = at; value = t.value; next = t.next }) (records read (count - (i + 1)) t.next)

    -- by the place after it
    pub ends_refused : {r : Refusal} → refused r ≡ next_of (read at) → refused r ≡ ends (records read (count - i) at)
    ends_refused e = rw (first_refused_lem (next_refused (read at) (sym e)))

  -- as many records as were asked for, from the place that was given
  pub as_many : (count at : ℕ) {t : Table A} → records read count at ≡ ok t → (length t.entries ≡ count) × (t.start ≡ at)
  unfolding records
  as_many zero at {t} e =
      let s : no_records at ≡ t = ok_same e in
      (ap (λ (t : Table A). length t.entries) (sym s), ap (λ (t : Table A). t.start) (sym s))
  as_many (suc count) at {t} e =
      let p = bind_ok (read at) _ e in
      let q = bind_ok (records read count p.0.next) _ p.2 in
      let s : before (record { start = at; value = p.0.value; next = p.0.next }) q.0 ≡ t = ok_same q.2 in
      let many = (as_many count p.0.next q.1).0 in
      (ap (λ (t : Table A). length t.entries) (sym s) ∙ ap suc many, ap (λ (t : Table A). t.start) (sym s))

-- ---- The places alone

-- the reader that keeps of each record where it ends
abbrev pub places : {A : Type 0} → (ℕ → Out (Taken A)) → ℕ → Out (Taken (Unit {0}))
places read at = do
  next ← next_of (read at)
  taken tt next

pub next_places : {A : Type 0} (x : Out (Taken A)) → next_of (next_of x >>= λ next. taken {A = Unit {0}} tt next) ≡ next_of x
next_places (ok t) = refl
next_places (refused r) = refl

-- a table of which the places are kept
abbrev pub places_in : {A : Type 0} → Table A → Table (Unit {0})
places_in t = record { start = t.start; entries = map (λ e. record { start = e.start; value = tt; next = e.next }) t.entries; end = t.end }

places_before : {A : Type 0} (e : Entry A) (x : Out (Table A))
    → ((x >>= λ t. ok (places_in t)) >>= λ rest. ok (before (record { start = e.start; value = tt; next = e.next }) rest))
    ≡ ((x >>= λ rest. ok (before e rest)) >>= λ t. ok (places_in t))
places_before e (ok t) = refl
places_before e (refused r) = refl

module _ {A : Type 0} (read : ℕ → Out (Taken A)) where
  pub records_places : (count at : ℕ) → records (places read) count at ≡ (records read count at >>= λ t. ok (places_in t))
  unfolding records
  records_places zero at = refl
  records_places (suc count) at = go (read at) (records_places count)
    where
      go : (x : Out (Taken A)) → ((at : ℕ) → records (places read) count at ≡ (records read count at >>= λ t. ok (places_in t)))
          → ((next_of x >>= λ next. taken {A = Unit {0}} tt next)
          >>= λ first. records (places read) count first.next
          >>= λ rest. ok (before (record { start = at; value = first.value; next = first.next }) rest))
          ≡ ((x >>= λ first. records read count first.next >>= λ rest. ok (before (record { start = at; value = first.value; next = first.next }) rest))
          >>= λ t. ok (places_in t))
      go (ok t) later = rw (later t.next) (places_before (record { start = at; value = t.value; next = t.next }) (records read count t.next))
      go (refused r) later = refl

  -- what a closure tells of a reader it tells of its places
  pub tells_places : {answers : ℕ → Result ℕ code.Refusal → Type 0} → Tells read answers → Tells (places read) answers
  tells_places tells place r fits a = tells place r fits a ∙ sym (next_places (read place))
