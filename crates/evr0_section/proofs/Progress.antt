-- A loop over a table: i of its records are read, with a number noted of each, and the whole is those and then what the rest gives from here.
use Prim.Native.Nat.{ℕ, suc, ◌+◌, ◌-◌, ◌≤◌, ◌<◌}
use mathlib.Core.Path.{◌≡◌, refl, ap, ◌∙◌}
use mathlib.Core.List.{List, [], ◌∷◌, ◌++◌, map, append-nil}
use native.Mathlib.Omega.{arith}
use lib.ListN.{drop}
use Rattle.local_format.specs.Refusal.{Refusal}
use Rattle.local_format.specs.Out.{Out, ok, refused, at_offset}
use Rattle.evr0_section.specs.Rows.{Row, Entry, Rows, rows}
use Rattle.evr0_section.proofs.RowsLaws.{after, entry, rows_none, rows_refused, rows_turn}

note_more : {A : Type 0} (note : A → ℕ) (es : List A) (e : A) → map note (es ++ (e ∷ [])) ≡ map note es ++ (note e ∷ [])
note_more note [] e = refl
note_more note (x ∷ es) e = ap (λ (xs : List ℕ). note x ∷ xs) (note_more note es e)

module _ {A S : Type 0} (row : S → List ℕ → Out (Row A S)) (note : Entry A → ℕ) (p : List ℕ) (count at : ℕ) (first : S) where
  -- the numbers xs are noted of the records read
  pub record Progress (i place : ℕ) (state : S) (xs : List ℕ) : Type 0 where
    pub read : List (Entry A)
    pub noted : map note read ≡ xs
    pub whole : rows row count first p at ≡ after read (rows row (count - i) state p place)

  -- a table that was read
  pub record Done (place : ℕ) (state : S) (xs : List ℕ) : Type 0 where
    pub table : Rows A S
    pub is : rows row count first p at ≡ ok table
    pub noted : map note table.entries ≡ xs
    pub last : table.state ≡ state
    pub next : table.next ≡ place

  module _ (i place : ℕ) (state : S) (xs : List ℕ) (done : Progress i place state xs) where
    one_more : i < count → count - i ≡ suc (count - (i + 1))
    one_more h = omega arith

    pub turn : i < count → (r : Row A S) → row state (drop place p) ≡ ok r → Progress (i + 1) (place + r.size) r.state
        (xs ++ (note (entry place r) ∷ []))
    turn h r e =
        record {
          read = done.read ++ (entry place r ∷ []);
          noted = note_more note done.read (entry place r) ∙ ap (λ (ys : List ℕ). ys ++ (note (entry place r) ∷ [])) done.noted;
          whole = done.whole
              ∙ ap (λ (n : ℕ). after done.read (rows row n state p place)) (one_more h)
              ∙ rows_turn row p (count - (i + 1)) place state done.read r e;
        }

    pub refused_at : i < count → (q : Refusal) → row state (drop place p) ≡ refused q → rows row count first p at ≡ refused (at_offset q (place + q.offset))
    refused_at h q e =
        done.whole
        ∙ ap (λ (n : ℕ). after done.read (rows row n state p place)) (one_more h)
        ∙ ap (after done.read) (rows_refused row p (count - (i + 1)) place state q e)

    pub ended : count ≤ i → Done place state xs
    ended h =
        let z : count - i ≡ 0 = omega arith in
        record {
          table = record { entries = done.read ++ []; state = state; next = place };
          is = done.whole ∙ ap (λ (n : ℕ). after done.read (rows row n state p place)) z ∙ ap (after done.read) (rows_none row p place state);
          noted = rw append-nil done.noted;
          last = refl;
          next = refl;
        }
