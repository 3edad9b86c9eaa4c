-- A list that loops fill from the front until it is the wanted one: what holds of the first entries, of one more, and at the end.
-- It says nothing of the crate.
use mathlib.Core.Path.{◌≡◌, sym, ◌∙◌, ap}
use mathlib.Core.List.{List, [], ◌∷◌, ◌++◌}
use Prim.Native.Nat.{ℕ, ◌+◌, ◌<◌, ◌≤◌}
use native.Mathlib.Omega.{arith}
use native.Mathlib.Numerals.{add-one}
use lib.ListN.{length, get_or, set, take, length-set}
use lib.Seq.{take-suc, take-suc-set, take_all}

module _ {X : Type 0} (wanted : List X) where
  -- of a list as long as the wanted one, the first i are as wanted
  pub record Filled (i : ℕ) (l : List X) : Type 0 where
    pub long : length l ≡ length wanted
    pub front : take i l ≡ take i wanted

  pub filled_more : {i : ℕ} {l : List X} → Filled i l → i < length wanted → (d x : X) → x ≡ get_or wanted i d → Filled (i + 1) (set l i x)
  filled_more {i} {l} f h d x e = record {
    long = rw length-set f.long;
    front =
        rw (e, add-one) (take-suc-set l i (get_or wanted i d) (let a = f.long in omega arith)
        ∙ ap (λ (xs : List X). xs ++ (get_or wanted i d ∷ [])) f.front ∙ sym (take-suc wanted i d h));
  }

  pub filled_whole : {i : ℕ} {l : List X} → Filled i l → length wanted ≤ i → l ≡ wanted
  filled_whole {i} {l} f h = sym (take_all i l (let a = f.long in omega arith)) ∙ f.front ∙ take_all i wanted h
