-- Laws of a look-up: a name is found or not as the rules go by, one after the other.
use Rattle.std.specs.Prelude.{Option, Some, None, is_some}
use Prim.Native.Nat.{ℕ, zero, suc, ◌+◌, ◌≤◌, ◌<◌}
use mathlib.Core.Path.{◌≡◌, refl, sym, ap, ◌∙◌}
use mathlib.Core.Bool.{Bool, true, false, not, cond, ◌||◌}
use mathlib.Core.List.Memᴰ
use mathlib.Core.List.{List, [], ◌∷◌, ◌++◌, map, Memᴰ}
use mathlib.Core.Logic.{◌⊎◌, inl, inr, ⊎_elim}
use native.Mathlib.Omega.{arith}
use native.Mathlib.Numerals.{add-one}
use lib.ListN.{length, get_or, drop, drop_of_length-le}
use lib.Seq.{drop-cons}
use Rattle.local_format.specs.Tag.{equal}
use Rattle.local_format.proofs.TagLaws.{equal_is, equal_self}
use Rattle.derivation.specs.Rule.{Rule, known, unknown, rule_named}
use Rattle.rule_table.specs.Load.{rule_in, named_in, Distinct, none, also}
use Rattle.rule_table.proofs.Names.{loaded_named}
use Rattle.evr0_rules.specs.declared.rule.Rule as code
use Rattle.evr0_rules.specs.Maps.{rule_out, named_out}

-- ---- Rule by rule

-- the numbers of the rule at a place, under a name that it has
pub known_at : (t name : List ℕ) (at : ℕ) (r : code.Rule) → equal name (rule_in t at).name ≡ true → rule_out (rule_in t at).name r ≡ rule_in t at
    → named_out name (Some r) ≡ known (rule_in t at)
known_at t name at r e is = ap (λ (n : List ℕ). known (rule_out n r)) (equal_is name _ e) ∙ ap known is

module _ (t : List ℕ) (name : List ℕ) (starts : List ℕ) (i : ℕ) (l : i < length starts) where
  next_is : map (rule_in t) (drop i starts) ≡ rule_in t (get_or starts i 0) ∷ map (rule_in t) (drop (i + 1) starts)
  next_is = rw (add-one, drop-cons starts i 0 l)

  pub found_here : equal name (rule_in t (get_or starts i 0)).name ≡ true
      → known (rule_in t (get_or starts i 0)) ≡ rule_named (map (rule_in t) (drop i starts)) name
  unfolding rule_named
  found_here e = rw (next_is, e)

  pub not_here : equal name (rule_in t (get_or starts i 0)).name ≡ false
      → rule_named (map (rule_in t) (drop (i + 1) starts)) name ≡ rule_named (map (rule_in t) (drop i starts)) name
  unfolding rule_named
  not_here e = rw (next_is, e)

pub none_left_lem : (t name starts : List ℕ) (i : ℕ) → length starts ≤ i → unknown ≡ rule_named (map (rule_in t) (drop i starts)) name
unfolding rule_named
none_left_lem t name starts i h = rw (drop_of_length-le starts h)

-- where no two rules have one name, the rule that has it is the one that is found
pub found_any : (t name starts : List ℕ) (i : ℕ) → Distinct (map (rule_in t) starts) → i < length starts
    → equal name (rule_in t (get_or starts i 0)).name ≡ true → known (rule_in t (get_or starts i 0)) ≡ rule_named (map (rule_in t) starts) name
found_any t name starts i d h e = sym ((loaded_named d name (rule_in t (get_or starts i 0))).1 (among starts i h, equal_is name _ e))
  where
    among : (starts : List ℕ) (i : ℕ) → i < length starts → Memᴰ (rule_in t (get_or starts i 0)) (map (rule_in t) starts)
    among [] i h = absurd (omega arith)
    among (x ∷ xs) zero h = Memᴰ.head refl
    among (x ∷ xs) (suc i) h = Memᴰ.tail (among xs i (omega arith))

-- ---- A name that is found was given
pub known_given : (rs : List Rule) (name : List ℕ) (r : Rule) → rule_named rs name ≡ known r → named_in rs name ≡ true
unfolding rule_named named_in
known_given [] name r e = absurd (let z : ◌≡◌ {A = ℕ} 0 1 = cc in omega arith)
known_given (x ∷ rs) name r e = go (equal name x.name) (known_given rs name r) e
  where
    go : (b : Bool) → (rule_named rs name ≡ known r → named_in rs name ≡ true) → cond b (known x) (rule_named rs name) ≡ known r
        → (b || named_in rs name) ≡ true
    go true later e = refl
    go false later e = later e

pub unknown_new : (rs : List Rule) (name : List ℕ) → rule_named rs name ≡ unknown → named_in rs name ≡ false
unfolding rule_named named_in
unknown_new [] name e = refl
unknown_new (x ∷ rs) name e = go (equal name x.name) (unknown_new rs name) e
  where
    go : (b : Bool) → (rule_named rs name ≡ unknown → named_in rs name ≡ false) → cond b (known x) (rule_named rs name) ≡ unknown
        → (b || named_in rs name) ≡ false
    go true later e = absurd (let z : ◌≡◌ {A = ℕ} 0 1 = cc in omega arith)
    go false later e = later e

-- a look-up that finds none says that the name is new
pub new_test : (rs : List Rule) (name : List ℕ) (found : Option code.Rule) (b : Bool) → named_out name found ≡ rule_named rs name
    → is_some found ≡ not b → b ≡ not (named_in rs name)
new_test rs name (Some r) b e h = rw (known_given rs name _ (sym e)) (told b h)
  where
    told : (b : Bool) → true ≡ not b → b ≡ false
    told true h = h
    told false h = refl
new_test rs name None b e h = rw (unknown_new rs name (sym e)) (told b h)
  where
    told : (b : Bool) → false ≡ not b → b ≡ true
    told true h = refl
    told false h = h

-- whether a name was given does not hang on the order
pub given_last : (r : Rule) (rs : List Rule) (name : List ℕ) → named_in (r ∷ rs) name ≡ named_in (rs ++ (r ∷ [])) name
unfolding named_in
given_last r [] name = refl
given_last r (x ∷ rs) name =
    swapped (equal name r.name) (equal name x.name) (named_in rs name) ∙ ap (λ (b : Bool). equal name x.name || b) (given_last r rs name)
  where
    swapped : (a b c : Bool) → (a || (b || c)) ≡ (b || (a || c))
    swapped true true c = refl
    swapped true false c = refl
    swapped false b c = refl

-- a rule more, with a name that was not given
pub distinct_last : (rs : List Rule) (r : Rule) → Distinct rs → named_in rs r.name ≡ false → Distinct (rs ++ (r ∷ []))
unfolding named_in
distinct_last [] r d e = also (λ q m k. Memᴰ.not-nil m) none
distinct_last (x ∷ rs) r (also other d) e = also (apart e) (distinct_last rs r d (neither e).1)
  where
    neither : (equal r.name x.name || named_in rs r.name) ≡ false → (equal r.name x.name ≡ false) × (named_in rs r.name ≡ false)
    neither = go (equal r.name x.name) (named_in rs r.name)
      where
        go : (a b : Bool) → (a || b) ≡ false → (a ≡ false) × (b ≡ false)
        go true b e = (e, cc)
        go false b e = (refl, e)

    last : (rs : List Rule) (q : Rule) → Memᴰ q (rs ++ (r ∷ [])) → Memᴰ q rs ⊎ (q ≡ r)
    last [] q (Memᴰ.head k) = inr k
    last [] q (Memᴰ.tail m) = absurd (Memᴰ.not-nil m)
    last (y ∷ rs) q (Memᴰ.head k) = inl (Memᴰ.head k)
    last (y ∷ rs) q (Memᴰ.tail m) = ⊎_elim (λ k. inl (Memᴰ.tail k)) (λ k. inr k) (last rs q m)

    apart : (equal r.name x.name || named_in rs r.name) ≡ false → (q : Rule) → Memᴰ q (rs ++ (r ∷ [])) → q.name ≡ x.name → ⊥
    apart e q m k =
        ⊎_elim (λ n. other q n k)
        (λ (n : q ≡ r).
        let same : equal r.name x.name ≡ true = rw (← n, k) (equal_self x.name) in
        let not : equal r.name x.name ≡ false = (neither e).0 in
        let z : ◌≡◌ {A = ℕ} 0 1 = cc in omega arith)
        (last rs q m)
