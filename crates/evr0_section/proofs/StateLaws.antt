-- What holds of each record of a table that was read, with the state that it was read in: induction on the table's trace.
use Prim.Native.Nat.{ℕ, zero, suc, ◌+◌, ◌≤◌, ◌<◌}
use mathlib.Core.Path.{◌≡◌, refl, ap, subst}
use mathlib.Core.List.{List, [], ◌∷◌, map}
use native.Mathlib.Omega.{arith}
use lib.ListN.{length, get_or, drop}
use Rattle.local_format.specs.Out.{Out, ok}
use Rattle.derivation.specs.Section.{sum_to}
use Rattle.evr0_section.specs.Rows.{Row, Entry, Rows, rows}
use Rattle.evr0_section.proofs.RowsLaws.{entry, Trace, none, more, trace}

-- ---- Sums from the front
sum_shift : (f : ℕ → ℕ) (n : ℕ) → sum_to f (suc n) ≡ f 0 + sum_to (λ k. f (suc k)) n
unfolding sum_to
sum_shift f zero = omega arith
sum_shift f (suc n) = omega (arith, sum_shift f n)

pub sum_ones : (n : ℕ) → sum_to (λ k. 1) n ≡ n
unfolding sum_to
sum_ones zero = refl
sum_ones (suc n) = omega (arith, sum_ones n)

module _ {A B S : Type 0} (view : Entry A → B) (next : S → B → S) where
  -- the state before the i-th of some records
  unfoldable pub state_at : S → List B → ℕ → S
  state_at u [] i = u
  state_at u (b ∷ bs) zero = u
  state_at u (b ∷ bs) (suc i) = state_at (next u b) bs i

  -- a number of the state to which each record adds
  pub state_sum : (f : S → ℕ) (g : B → ℕ) → ((u : S) (b : B) → f (next u b) ≡ f u + g b) → (default : B) (bs : List B) (u : S) (i : ℕ) → i ≤ length bs
      → f (state_at u bs i) ≡ f u + sum_to (λ k. g (get_or bs k default)) i
  unfolding state_at sum_to
  state_sum f g step default [] u zero l = omega arith
  state_sum f g step default [] u (suc i) l = absurd (omega arith)
  state_sum f g step default (b ∷ bs) u zero l = omega arith
  state_sum f g step default (b ∷ bs) u (suc i) l =
      omega (arith, state_sum f g step default bs (next u b) i (omega arith), step u b, sum_shift (λ k. g (get_or (b ∷ bs) k default)) i)

  module _ (Good : S → B → Type 0) where
    -- n records, from the state u on to the state v
    pub record Read (n : ℕ) (u v : S) (bs : List B) : Type 0 where
      pub total : length bs ≡ n
      pub good : (default : B) (i : ℕ) → i < n → Good (state_at u bs i) (get_or bs i default)
      pub last : v ≡ state_at u bs n

    -- what is known of a row that was read
    pub record Known (u : S) (r : Row A S) : Type 0 where
      pub good : (at : ℕ) → Good u (view (entry at r))
      pub state : (at : ℕ) → r.state ≡ next u (view (entry at r))

    read_more : (n : ℕ) (u v : S) (b : B) (bs : List B) → Good u b → Read n (next u b) v bs → Read (suc n) u v (b ∷ bs)
    unfolding state_at
    read_more n u v b bs g h = record { total = ap suc h.total; good = each; last = h.last }
      where
        each : (default : B) (i : ℕ) → i < suc n → Good (state_at u (b ∷ bs) i) (get_or (b ∷ bs) i default)
        each default zero l = g
        each default (suc i) l = h.good default i (omega arith)

    module _ (row : S → List ℕ → Out (Row A S)) (known : (u : S) (s : List ℕ) (r : Row A S) → row u s ≡ ok r → Known u r) (p : List ℕ) where
      trace_read : {n at end : ℕ} {u v : S} {es : List (Entry A)} → Trace row p n u at es v end → Read n u v (map view es)
      unfolding state_at
      trace_read none = record { total = refl; good = λ z i l. absurd (omega arith); last = refl }
      trace_read (more {n = n} {at = at} {state = u} {last = v} {es = es} r e w) =
          let k : Known u r = known u (drop at p) r e in
          read_more n u v (view (entry at r)) (map view es) (k.good at) (subst (λ (x : S). Read n x v (map view es)) (k.state at) (trace_read w))

      pub rows_read : (n at : ℕ) (u : S) (t : Rows A S) → rows row n u p at ≡ ok t → Read n u t.state (map view t.entries)
      rows_read n at u t e = trace_read (trace row p n at u t e)
