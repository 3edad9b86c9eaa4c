-- Laws of a table: a turn of its reading, and the trace of a table that was read, over which the facts about tables go by induction.
use Prim.Native.Nat.{ℕ, zero, suc, ◌+◌}
use mathlib.Core.Path.{◌≡◌, refl, ap, ◌∙◌}
use mathlib.Core.Logic.{◌⊎◌, inl, inr}
use mathlib.Core.List.Memᴰ
use mathlib.Core.List.{List, [], ◌∷◌, ◌++◌, append_assoc, Memᴰ}
use lib.ListN.{length, drop}
use Rattle.local_format.specs.Refusal.{Refusal}
use Rattle.local_format.specs.Out.{Out, ok, refused, ◌>>=◌, moved, at_offset}
use Rattle.local_format.proofs.OutLaws.{ok_same, bind_ok, moved_ok}
use Rattle.evr0_section.specs.Rows.{Row, Entry, Rows, rows}

-- records read before others
abbrev pub after : {A S : Type 0} → List (Entry A) → Out (Rows A S) → Out (Rows A S)
after es x = do
  t ← x
  ok (record { entries = es ++ t.entries; state = t.state; next = t.next })

abbrev pub entry : {A S : Type 0} → ℕ → Row A S → Entry A
entry at r = record { start = at; item = r.item }

module _ {A S : Type 0} where
  pub after_none : (x : Out (Rows A S)) → x ≡ after [] x
  after_none (ok t) = refl
  after_none (refused r) = refl

  after_after : (es fs : List (Entry A)) (x : Out (Rows A S)) → after es (after fs x) ≡ after (es ++ fs) x
  after_after es fs (ok t) = simp append_assoc
  after_after es fs (refused r) = refl

module _ {A S : Type 0} (row : S → List ℕ → Out (Row A S)) (p : List ℕ) where
  -- ---- A turn: n + 1 records are left, from a place on
  module _ (n at : ℕ) (state : S) where
    pub rows_refused : (q : Refusal) → row state (drop at p) ≡ refused q → rows row (suc n) state p at ≡ refused (at_offset q (at + q.offset))
    unfolding rows
    rows_refused q e = rw e

    rows_more : (r : Row A S) → row state (drop at p) ≡ ok r → rows row (suc n) state p at
        ≡ after (entry at r ∷ []) (rows row n r.state p (at + r.size))
    unfolding rows
    rows_more r e = rw e

    pub rows_turn : (es : List (Entry A)) (r : Row A S) → row state (drop at p) ≡ ok r
        → after es (rows row (suc n) state p at) ≡ after (es ++ (entry at r ∷ [])) (rows row n r.state p (at + r.size))
    rows_turn es r e = ap (after es) (rows_more r e) ∙ after_after es (entry at r ∷ []) (rows row n r.state p (at + r.size))

  pub rows_none : (at : ℕ) (state : S) → rows row 0 state p at ≡ ok (record { entries = []; state = state; next = at })
  unfolding rows
  rows_none at state = refl

  -- ---- The trace of a table that was read: each record, with the state that it was read in
  pub data Trace : ℕ → S → ℕ → List (Entry A) → S → ℕ → Type 0 where
    none : {at : ℕ} {state : S} → Trace 0 state at [] state at
    more : {n at end : ℕ} {state last : S} {es : List (Entry A)} (r : Row A S) → row state (drop at p) ≡ ok r
        → Trace n r.state (at + r.size) es last end → Trace (suc n) state at (entry at r ∷ es) last end

  trace_end : (n at : ℕ) (state : S) (t u : Rows A S) → ok u ≡ ok t → Trace n state at u.entries u.state u.next
      → Trace n state at t.entries t.state t.next
  trace_end n at state t u e w = rw (ok_same e) at w

  pub trace : (n at : ℕ) (state : S) (t : Rows A S) → rows row n state p at ≡ ok t → Trace n state at t.entries t.state t.next
  unfolding rows
  trace zero at state t e = trace_end 0 at state t _ e none
  trace (suc n) at state t e =
      let a = bind_ok (moved at (row state (drop at p))) _ e in
      let b = bind_ok (rows row n a.0.state p (at + a.0.size)) _ a.2 in
      trace_end (suc n) at state t _ b.2 (more a.0 (moved_ok at _ a.1) (trace n (at + a.0.size) a.0.state b.0 b.1))

  -- as many entries as records
  pub trace_length : {n at end : ℕ} {state last : S} {es : List (Entry A)} → Trace n state at es last end → length es ≡ n
  trace_length none = refl
  trace_length (more r e w) = ap suc (trace_length w)

  -- what holds of each row that is read holds of each entry of a table
  pub each_entry : (P : Entry A → Type 0) → ((state : S) (at : ℕ) (r : Row A S) → row state (drop at p) ≡ ok r → P (entry at r))
      → {n at end : ℕ} {state last : S} {es : List (Entry A)} → Trace n state at es last end → (e : Entry A) → Memᴰ e es → P e
  each_entry P one none e m = absurd (Memᴰ.not-nil m)
  each_entry P one (more {at = at} {state = state} {es = es} r h w) e m = go (λ k. each_entry P one w e k) (Memᴰ.cases_cons m)
    where
      go : (Memᴰ e es → P e) → (e ≡ entry at r) ⊎ Memᴰ e es → P e
      go rest (inl q) = rw q (one state at r h)
      go rest (inr k) = rest k
