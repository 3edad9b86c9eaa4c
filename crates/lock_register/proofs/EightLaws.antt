-- A slice looked at by eights: what `chunks_exact` gives, and that the eights and what is behind them are all.
use mathlib.Core.Path.{◌≡◌, refl, sym, ap, subst, ◌∙◌}
use Prim.Native.Nat.{ℕ, zero, suc, ◌+◌, ◌-◌, ◌*◌, ◌/◌, ◌%◌, ◌<◌}
use native.Mathlib.Omega.{arith}
use mathlib.Core.List.{List, [], ◌∷◌}
use mathlib.Core.Bool.{Bool, true, false, ◌||◌}
use lib.ListN.{length, take, drop, take-append-drop, length-append}
use lib.Seq.{take_at, drop_at, drop-drop}
use denote.Ref.{Bor}
use denote.Param.Members.{Mut}
use Rattle.std.specs.Prelude.{Option}
use Rattle.std.specs.Fn.{Called}
use Rattle.std.specs.Iterator.{AlwaysYields, ChecksAny, Yields, YieldsThen}
use Rattle.std.specs.List.{list_any}
use Rattle.std.specs.Simd.{first_chunks}
use Rattle.std.specs.Slice.Iter.{chunks_exact_rest, chunks_exact_remainder, chunks_exact_size, chunks_exact_steps}
use Rattle.std.specs.declared.slice.ChunksExact.{ChunksExact}
use Rattle.std.proofs.lemmas.Iterator.{YieldsList}
use Rattle.std.proofs.lemmas.Iterator.Search.{any_from_yields_List}
use Rattle.std.proofs.lemmas.List.Folds.{list_any-append}

or_assoc : (x y z : Bool) → ((x || y) || z) ≡ (x || (y || z))
or_assoc true y z = refl
or_assoc false y z = refl

module _ {A : Type 0} where
  abbrev steps : ChunksExact A → Option (Bor (List A)) → ChunksExact A → Type 0
  steps = chunks_exact_steps

  -- so many whole eights come, and then nothing
  gives : (k r : ℕ) (s : ChunksExact A) → chunks_exact_size s ≡ 8 → length (chunks_exact_rest s) ≡ 8 * k + r → r < 8
      → AlwaysYields steps (λ x. x.now) s (first_chunks 8 k (chunks_exact_rest s))
  gives zero r s size all few = λ x t p. let n = ap length p.1.0 ∙ length-append x.now (chunks_exact_rest t) in omega (arith, n, p.1.1)
  gives (suc k) r s size all few = (
    (λ t p. omega (arith, p.1.0)),
    λ x t p.
        let long : length x.now ≡ 8 = p.1.1 ∙ size in
        let n = ap length p.1.0 ∙ length-append x.now (chunks_exact_rest t) in
        let back : drop 8 (chunks_exact_rest s) ≡ chunks_exact_rest t = ap (drop 8) p.1.0 ∙ drop_at x.now (chunks_exact_rest t) 8 long in (
          sym (ap (take 8) p.1.0 ∙ take_at x.now (chunks_exact_rest t) 8 long),
          subst (λ (l : List A). AlwaysYields steps (λ x. x.now) t (first_chunks 8 k l)) (sym back) (gives k r t (p.0 ∙ size) (omega arith) few),
        ),
  )

  kept : (xs : List (Bor (List A))) (s t : ChunksExact A) → Yields steps s xs t → chunks_exact_remainder t ≡ chunks_exact_remainder s
  kept [] s t y = ap chunks_exact_remainder (sym y)
  kept (x ∷ xs) s t y = kept xs y.0 t y.2 ∙ y.1.2

  -- no call changes what is behind the eights
  rest_kept : (xs : List (Bor (List A))) (o : Option (Bor (List A))) (s u : ChunksExact A) → YieldsThen steps s xs o u
      → chunks_exact_remainder u ≡ chunks_exact_remainder s
  rest_kept xs o s u y = y.2.2 ∙ kept xs s y.0 y.1

  -- a test holds of some element where it holds of one in the first k eights, or of one behind them
  by_eights : (test : A → Bool) (k : ℕ) (xs : List A)
      → (list_any (list_any test) (first_chunks 8 k xs) || list_any test (drop (8 * k) xs)) ≡ list_any test xs
  by_eights test zero xs = refl
  by_eights test (suc k) xs =
      let more : 8 + 8 * k ≡ 8 * suc k = omega arith in
      let front = list_any test (take 8 xs) in
      let eights = list_any (list_any test) (first_chunks 8 k (drop 8 xs)) in
      or_assoc front eights (list_any test (drop (8 * suc k) xs))
      ∙ ap (λ (l : List A). front || (eights || list_any test l)) (sym (drop-drop (8 * k) 8 xs ∙ ap (λ (n : ℕ). drop n xs) more))
      ∙ ap (λ (b : Bool). front || b) (by_eights test k (drop 8 xs))
      ∙ sym (list_any-append test (take 8 xs) (drop 8 xs))
      ∙ ap (list_any test) (take-append-drop 8 xs)

-- what `any` answers at the eights of a slice, where each call tells whether the test holds of one of its elements
module _ {A F : Type 0} {g : Mut F (Bor (List A) × Unit {0}) Bool} (test : A → Bool) (xs : List A) (s u : ChunksExact A) (f : F) (b : Bool)
    (ran : ChecksAny steps g s f b u) (size : chunks_exact_size s ≡ 8) (all : chunks_exact_rest s ≡ xs)
    (calls : (x : Bor (List A)) (r : Bool) (q : F) → Called g f (x, tt) r q → (q ≡ f) × (r ≡ list_any test x.now)) where
  abbrev last : List A
  last = drop (8 * (length xs / 8)) xs

  road : YieldsList steps (λ x. x.now) s (first_chunks 8 (length xs / 8) xs)
  road = record {
    runs = subst (λ (l : List A). AlwaysYields steps (λ x. x.now) s (first_chunks 8 (length l / 8) l)) all
        (gives (length (chunks_exact_rest s) / 8) (length (chunks_exact_rest s) % 8) s size (omega arith) (omega arith));
  }

  among : b ≡ list_any (list_any test) (first_chunks 8 (length xs / 8) xs)
  among = any_from_yields_List (list_any test) u f b ran road calls

  whole : (b || list_any test last) ≡ list_any test xs
  whole = ap (λ (x : Bool). x || list_any test last) among ∙ by_eights test (length xs / 8) xs

  pub found : b ≡ true → b ≡ list_any test xs
  found t = t ∙ ap (λ (x : Bool). x || list_any test last) (sym t) ∙ whole

  -- the test holds of no element of the eights: those behind them decide
  pub not_found : b ≡ false → (rest : List A) → rest ≡ chunks_exact_remainder u → chunks_exact_remainder s ≡ drop (length xs - length xs % 8) xs
      → list_any test rest ≡ list_any test xs
  not_found n rest e behind =
      let m : length xs - length xs % 8 ≡ 8 * (length xs / 8) = omega arith in
      let l : rest ≡ last = e ∙ rest_kept ran.0 ran.1 s u ran.3 ∙ behind ∙ ap (λ (k : ℕ). drop k xs) m in
      ap (list_any test) l ∙ ap (λ (x : Bool). x || list_any test last) (sym n) ∙ whole
