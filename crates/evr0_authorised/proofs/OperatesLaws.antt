-- Whether some proof operates, by one proof and its mark at a time; a table that begins with the marks serves for them.
use Prim.Native.Nat.{ℕ, suc, ◌+◌, ◌≤◌, ◌<◌}
use mathlib.Core.Path.{◌≡◌, refl, sym, ◌∙◌}
use mathlib.Core.Bool.{Bool, true, false, ◌&&◌, ◌||◌}
use mathlib.Core.List.{List, [], ◌∷◌, map}
use native.Mathlib.Omega.{arith}
use borrow.Author.Tests.{eq-eqb}
use lib.Dec.{eqb}
use native.Mathlib.Numerals.{add-one}
use lib.ListN.{length, get_or, take, drop, length-map, drop_of_length-le}
use lib.Seq.{drop-cons}
use Rattle.lent_table.specs.Lent.{Front}
use Rattle.derivation.specs.Section.{Proof, no_proof}
use Rattle.derivation.specs.Friendly.{operates}
use Rattle.evr0_pass.proofs.ViewLaws.{get_or_map_in}
use Rattle.evr0_authorised.specs.Maps.{own}

pub operates_front : (n : ℕ) (ps : List Proof) (ms table : List ℕ) → length ps ≤ length ms → Front ms table → operates ps table n ≡ operates ps ms n
unfolding operates
operates_front n [] ms table h f = refl
operates_front n (p ∷ ps) [] table h f = absurd (omega arith)
operates_front n (p ∷ ps) (m ∷ ms) [] h f = absurd (let z : ◌≡◌ {A = ℕ} 0 1 = cc in omega arith)
operates_front n (p ∷ ps) (m ∷ ms) (t ∷ table) h f =
    let same : t ≡ m = cc in
    let rest : take (length ms) table ≡ ms = cc in
    rw (same, operates_front n ps ms table (omega arith) rest)

-- a test of a record, and that of a mark which is 1
pub marked_too : (b : Bool) {m : ℕ} → m ≡ 1 → b ≡ (b && eqb m 1)
marked_too true {m} e = rw (eq-eqb m 1 e)
marked_too false e = refl

module _ (f : ℕ → Proof) (starts marks : List ℕ) (n : ℕ) where
  -- the proofs before the i-th have nothing to say
  abbrev pub LeftFrom : ℕ → Type 0
  LeftFrom i = operates (map f starts) marks n ≡ operates (drop i (map f starts)) (drop i marks) n

  module _ (i : ℕ) (left : LeftFrom i) where
    pub none_left_lem : length starts ≤ i → false ≡ operates (map f starts) marks n
    unfolding operates
    none_left_lem h = sym (left ∙ rw (drop_of_length-le (map f starts) {i = i} (omega (arith, length-map starts f))))

    module _ (there : i < length starts) (long : length starts ≤ length marks) where
      abbrev here : Bool
      here = own (f (get_or starts i 0)) (get_or marks i 0) n

      next : operates (map f starts) marks n ≡ (here || operates (drop (suc i) (map f starts)) (drop (suc i) marks) n)
      unfolding operates
      next =
          left
          ∙ rw (
            drop-cons (map f starts) i no_proof (omega (arith, length-map starts f)),
            drop-cons marks i 0 (omega arith),
            get_or_map_in f starts i 0 no_proof there,
          )

      pub found_here : here ≡ true → true ≡ operates (map f starts) marks n
      found_here e = sym (next ∙ rw e)

      pub goes_on : here ≡ false → LeftFrom (i + 1)
      goes_on e = next ∙ rw (e, add-one i)
