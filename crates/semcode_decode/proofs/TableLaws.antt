-- How a lent table is filled with the starts of records, whatever reader reads each: what is done, then the rest from here.
use mathlib.Core.Path.{◌≡◌, refl, ap, sym, ◌∙◌}
use Prim.Native.Nat.{ℕ, ◌+◌, ◌-◌, ◌≤◌, ◌<◌}
use native.Mathlib.Omega.{arith}
use native.Mathlib.Nat.{sub-zero}
use native.Mathlib.Numerals.{add-one}
use mathlib.Core.List.{List, [], ◌∷◌, ◌++◌, map, append-nil, append_assoc}
use lib.ListN.{length, length-map, take, drop, set}
use lib.Seq.{take-suc-set, take_all}
use Rattle.local_format.specs.Refusal.{Refusal}
use Rattle.local_format.specs.Out.{Out, ok, refused, ◌>>=◌}
use Rattle.local_format.proofs.OutLaws.{never, refused_same, ok_same, bind_ok}
use Rattle.semcode_records.specs.Records.{Taken, Entry, Table, before, records, ends}
use Rattle.semcode_records.proofs.RecordsLaws.{none_left_lem, first_refused_lem, first_read, as_many, places, places_in, records_places}
use Rattle.semcode_decode.specs.Layout.{extent, starts_of}
use Rattle.semcode_decode.specs.Begun.{Lies}

-- what a loop keeps of a table: the starts and the place after the last record
pub record Kept : Type 0 where
  pub starts : List ℕ
  pub end : ℕ

abbrev pub kept : {A : Type 0} → Out (Table A) → Out Kept
kept x = do
  t ← x
  ok (record { starts = starts_of t; end = t.end })

-- the starts so far in front of those that follow
abbrev pub after : List ℕ → Out Kept → Out Kept
after xs x = do
  k ← x
  ok (record { starts = xs ++ k.starts; end = k.end })

after_none : (x : Out Kept) → x ≡ after [] x
after_none (ok k) = refl
after_none (refused r) = refl

after_one : {A : Type 0} (xs : List ℕ) (e : Entry A) (x : Out (Table A)) → after xs (kept (x >>= λ t. ok (before e t)))
    ≡ after (xs ++ e.start ∷ []) (kept x)
after_one xs e (ok t) = simp append_assoc
after_one xs e (refused r) = refl

kept_refused : {A : Type 0} (x : Out (Table A)) {r : Refusal} → kept x ≡ refused r → x ≡ refused r
kept_refused (ok t) e = absurd (never (sym e))
kept_refused (refused q) e = ap refused (refused_same e)

kept_ok : {A : Type 0} (x : Out (Table A)) {k : Kept} → kept x ≡ ok k → (t : Table A) × (x ≡ ok t) × (starts_of t ≡ k.starts) × (t.end ≡ k.end)
kept_ok (ok t) e = (t, refl, ap (λ (k : Kept). k.starts) (ok_same e), ap (λ (k : Kept). k.end) (ok_same e))
kept_ok (refused r) e = absurd (never e)

module _ {A : Type 0} (read : ℕ → Out (Taken A)) (count at : ℕ) where
  -- i records are read, which start at these places, and the first of the rest stands at a place
  abbrev pub Passing : ℕ → ℕ → List ℕ → Type 0
  Passing i place ss = kept (records read count at) ≡ after ss (kept (records read (count - i) place))

  pub pass_first : Passing 0 at []
  pass_first = rw sub-zero (after_none (kept (records read count at)))

  module _ (i place : ℕ) (ss : List ℕ) (inv : Passing i place ss) where
    pub pass_refused : {r : Refusal} → i < count → read place ≡ refused r → records read count at ≡ refused r
    pass_refused more e =
        kept_refused (records read count at) (inv ∙ ap (λ (x : Out (Table A)). after ss (kept x)) (first_refused_lem read count i place more e))

    pub pass_on : {t : Taken A} → i < count → read place ≡ ok t → Passing (i + 1) t.next (ss ++ place ∷ [])
    pass_on {t} more e =
        inv
        ∙ ap (λ (x : Out (Table A)). after ss (kept x)) (first_read read count i place more e)
        ∙ after_one ss (record { start = place; value = t.value; next = t.next }) (records read (count - (i + 1)) t.next)

  pub passed : (place : ℕ) (ss : List ℕ) → Passing count place ss
      → (t : Table A) × (records read count at ≡ ok t) × (starts_of t ≡ ss) × (t.end ≡ place)
  passed place ss inv =
      let z : count - count ≡ 0 = omega arith in
      let done : kept (records read count at) ≡ ok (record { starts = ss ++ []; end = place }) = inv ∙ rw (z, none_left_lem read place) in
      let w = kept_ok (records read count at) done in
      (w.0, w.1, w.2 ∙ append-nil ss, w.3)

  -- the same, where the first i entries of a table are their starts
  abbrev pub Filling : ℕ → ℕ → List ℕ → Type 0
  Filling i place xs = Passing i place (take i xs)

  pub fill_first : (xs : List ℕ) → Filling 0 at xs
  fill_first xs = pass_first

  module _ (i place : ℕ) (xs : List ℕ) (inv : Filling i place xs) where
    pub fill_refused : {r : Refusal} → i < count → read place ≡ refused r → records read count at ≡ refused r
    fill_refused more e = pass_refused i place (take i xs) inv more e

    pub fill_on : {t : Taken A} → i < count → i < length xs → read place ≡ ok t → Filling (i + 1) t.next (set xs i place)
    fill_on {t} more room e =
        let s : take (i + 1) (set xs i place) ≡ take i xs ++ place ∷ [] = rw add-one (take-suc-set xs i place room) in
        pass_on i place (take i xs) inv more e
        ∙ ap (λ (ys : List ℕ). after ys (kept (records read (count - (i + 1)) t.next))) (sym s)

  pub filled : (place : ℕ) (xs : List ℕ) → Filling count place xs → length xs ≤ count
      → (extent (records read count at) ≡ ok (record { start = at; count = count; end = place }))
      × ((t : Table A) → records read count at ≡ ok t → xs ≡ starts_of t)
  filled place xs inv all =
      let w = passed place (take count xs) inv in
      let many = as_many read count at w.1 in
      let s : starts_of w.0 ≡ xs = w.2 ∙ take_all count xs all in
      (rw (w.1, many.0, many.1, w.3), λ t e. sym s ∙ ap starts_of (ok_same (sym w.1 ∙ e)))

-- where the place after the last record is known, so is the table's extent
pub extent_ends : {A : Type 0} (read : ℕ → Out (Taken A)) (count at : ℕ) {end : ℕ} → ends (records read count at) ≡ ok end
    → extent (records read count at) ≡ ok (record { start = at; count = count; end = end })
extent_ends read count at e =
    let w = bind_ok (records read count at) _ e in
    let many = as_many read count at w.1 in
    rw (w.1, many.0, many.1, ok_same w.2)

-- ---- By a reader's places

pub starts_blank : {A : Type 0} (es : List (Entry A))
    → map {A = Entry (Unit {0})} (λ e. e.start) (map (λ e. record { start = e.start; value = tt {0}; next = e.next }) es)
    ≡ map (λ e. e.start) es
starts_blank [] = refl
starts_blank (e ∷ es) = ap (λ xs. e.start ∷ xs) (starts_blank es)

module _ {A : Type 0} (read : ℕ → Out (Taken A)) (count at : ℕ) where
  pub extent_places : extent (records (places read) count at) ≡ extent (records read count at)
  extent_places = rw (records_places read count at) (go (records read count at))
    where
      go : (x : Out (Table A)) → extent (x >>= λ t. ok (places_in t)) ≡ extent x
      go (ok t) = rw length-map
      go (refused r) = refl

  -- the starts at the front of a table, and past them what it held
  pub lies_places : (held front : List ℕ) → length front ≡ count
      → ((t : Table (Unit {0})) → records (places read) count at ≡ ok t → front ≡ starts_of t)
      → Lies (records read count at) held (front ++ drop count held)
  lies_places held front l h = go (records read count at) refl
    where
      go : (x : Out (Table A)) → records read count at ≡ x → Lies x held (front ++ drop count held)
      go (ok t) e =
          let f : front ≡ starts_of t = h (places_in t) (records_places read count at ∙ rw e) ∙ starts_blank t.entries in
          rw (← f, l)
      go (refused r) e = tt
