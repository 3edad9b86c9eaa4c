-- Laws of loading: the loop stands where the rules before a place are read and those from it on are left; a turn reads one more, or says
-- what the whole is refused with.
use Rattle.std.specs.Prelude.{Option, is_some}
use Prim.Native.Nat.{ℕ, zero, suc, ◌+◌, ◌-◌, ◌≤◌, ◌<◌}
use mathlib.Core.Path.{◌≡◌, refl, sym, ap, ◌∙◌}
use mathlib.Core.Bool.{Bool, true, false, not, ◌&&◌}
use mathlib.Core.List.{List, [], ◌∷◌, ◌++◌, map, append_assoc, append-nil}
use mathlib.Core.Logic.{⊎_elim}
use native.Mathlib.Omega.{arith}
use native.Mathlib.Numerals.{add-one}
use lib.Dec.{leb, eqb}
use lib.ListN.{length, take, set, length-append, get_or-append}
use lib.Seq.{get_or-append_seam, take-suc-set}
use Rattle.local_format.specs.Refusal.{Refusal}
use Rattle.local_format.specs.Out.{Out, ok, refused, refuse, check, ◌>>=◌, ◌>>◌}
use Rattle.local_format.specs.Field.{Got, whole, cut, or_cut, field_at}
use Rattle.local_format.proofs.OutLaws.{never, ok_same, bind_ok, checked_ok}
use Rattle.local_format.proofs.FieldLaws.{field_ok}
use Rattle.derivation.specs.Rule.{Rule, rule_named}
use Rattle.derivation.proofs.Tests.{order}
use Rattle.rule_table.specs.Load.{outside_bounds, given_twice, rule_in, Loaded, rule_at, outside, named_in, rules_from, rules_of, Distinct, none}
use Rattle.rule_table.proofs.Load.{outside_ok, loaded}
use Rattle.evr0_rules.specs.There.{StartsThere, RulesThere}
use Rattle.evr0_rules.specs.Maps.{named_out, new_rule_at}
use Rattle.evr0_rules.specs.declared.rule.Rule as code
use Rattle.evr0_rules.proofs.NameLaws.{new_test, given_last, distinct_last}
use Rattle.evr0_rules.proofs.RuleLaws.{RuleRead, rule_read}

-- rules read before others
abbrev onto : List Rule → Out (List Rule) → Out (List Rule)
onto done x = do
  rest ← x
  ok (done ++ rest)

onto_more : (done : List Rule) (r : Rule) (x : Out (List Rule)) → onto done (x >>= λ rest. ok (r ∷ rest)) ≡ onto (done ++ (r ∷ [])) x
onto_more done r (ok rest) = ap ok (sym (append_assoc done (r ∷ []) rest))
onto_more done r (refused q) = refl

map_last : (t : List ℕ) (xs : List ℕ) (x : ℕ) → map (rule_in t) (xs ++ (x ∷ [])) ≡ map (rule_in t) xs ++ (rule_in t x ∷ [])
map_last t [] x = refl
map_last t (y ∷ xs) x = ap (λ (rs : List Rule). rule_in t y ∷ rs) (map_last t xs x)

-- what a rule that was read leads to, after others
abbrev onwards : ℕ → List Rule → List ℕ → Loaded → Out (List Rule)
onwards n before t r =
    check (not (named_in before r.rule.name)) given_twice 0 >> (rules_from n (r.rule ∷ before) t r.next >>= λ rest. ok (r.rule ∷ rest))

-- what is read next hangs on the names before alone
rules_alike : (n : ℕ) (before others : List Rule) → ((name : List ℕ) → named_in before name ≡ named_in others name) → (t : List ℕ) (at : ℕ)
    → rules_from n before t at ≡ rules_from n others t at
unfolding rules_from named_in
rules_alike zero before others same t at = refl
rules_alike (suc n) before others same t at =
    go (outside (rule_at t at)) (λ r next. rules_alike n (r ∷ before) (r ∷ others) (λ name. rw (same name)) t next)
  where
    go : (x : Out Loaded) → ((r : Rule) (next : ℕ) → rules_from n (r ∷ before) t next ≡ rules_from n (r ∷ others) t next)
        → (x >>= onwards n before t) ≡ (x >>= onwards n others t)
    go (ok r) later = rw (same r.rule.name, later r.rule r.next)
    go (refused q) later = refl

onto_none : (x : Out (List Rule)) → x ≡ onto [] x
onto_none (ok rs) = refl
onto_none (refused q) = refl

-- ---- The rule at a place, whose name is new
module _ (t : List ℕ) (at : ℕ) (before : List Rule) where
  -- what is read hangs on whether the code finds the name among those before
  pub turn : {x : Loaded} (found : Option code.Rule) (b : Bool) → ok x ≡ outside (rule_at t at)
      → named_out (rule_in t at).name found ≡ rule_named before (rule_in t at).name
      → is_some found ≡ not b → (check b given_twice 0 >> ok x) ≡ new_rule_at before t at
  turn {x} found b e n h =
      let name : (rule_in t at).name ≡ x.rule.name = ap (λ (r : Rule). r.name) (rule_read t at (outside_ok _ (sym e))).is in
      rw (← e, ← name, new_test before _ found b n h) refl

  turn_refused : (n : ℕ) {q : Refusal} → new_rule_at before t at ≡ refused q → onto before (outside (rule_at t at) >>= onwards n before t) ≡ refused q
  turn_refused n {q} = go (outside (rule_at t at))
    where
      checked : (r : Loaded) (b : Bool) (y : Out (List Rule)) → (check b given_twice 0 >> ok r) ≡ refused q → (check b given_twice 0 >> y) ≡ refused q
      checked r true y e = absurd (never (sym e))
      checked r false y e = cc

      go : (x : Out Loaded) → (x >>= λ r. check (not (named_in before r.rule.name)) given_twice 0 >> ok r) ≡ refused q
          → onto before (x >>= onwards n before t) ≡ refused q
      go (ok r) e = rw (checked r (not (named_in before r.rule.name)) _ e)
      go (refused p) e = cc

  turn_ok : {x : Loaded} → new_rule_at before t at ≡ ok x → (outside (rule_at t at) ≡ ok x) × (named_in before x.rule.name ≡ false)
  turn_ok {x} e =
      let (r, f, g) = bind_ok (outside (rule_at t at)) _ e in
      let (b, h) = checked_ok (not (named_in before r.rule.name)) given_twice 0 (ok r) g in
      let same : r ≡ x = ok_same h in
      (f ∙ ap ok same, rw same at (not_true _ b))
    where
      not_true : (b : Bool) → not b ≡ true → b ≡ false
      not_true true e = absurd (let z : ◌≡◌ {A = ℕ} 0 1 = cc in omega arith)
      not_true false e = refl

module _ (t : List ℕ) where
  -- so many rules are read, at the places xs, and the next one stands at a place
  pub record Stands (count i at : ℕ) (xs : List ℕ) : Type 0 where
    pub whole : rules_of t ≡ onto (map (rule_in t) xs) (rules_from (count - i) (map (rule_in t) xs) t at)
    pub there : StartsThere t xs
    pub distinct : Distinct (map (rule_in t) xs)
    pub total : length xs ≡ i
    pub upto : i ≤ count

  -- ---- The count
  pub no_count : cut ≡ field_at 1 t 0 → rules_of t ≡ refuse outside_bounds 0
  unfolding rules_of
  no_count e = rw (← e)

  module _ {n : Got} (e : whole n ≡ field_at 1 t 0) where
    pub bad_count : {q : Refusal} → refused q ≡ check (leb 1 n.value && leb n.value 32) outside_bounds 0 → rules_of t ≡ refused q
    unfolding rules_of
    bad_count f = rw (← e, ← f)

    pub starting : {u : Unit {0}} → ok u ≡ check (leb 1 n.value && leb n.value 32) outside_bounds 0 → Stands n.value 0 1 []
    unfolding rules_of
    starting f =
        let k : n.next ≡ 1 = omega (arith, (field_ok 5 1 t 0 (ap (or_cut 5 0) (sym e))).0) in
        let m : n.value - 0 ≡ n.value = omega arith in
        record {
          whole = rw (← e, ← f, k, m) (onto_none (rules_from n.value [] t 1));
          there = λ i l. absurd (omega arith);
          distinct = none;
          total = refl;
          upto = omega arith;
        }

  -- ---- A turn
  module _ {count i at : ℕ} {xs : List ℕ} (s : Stands count i at xs) (l : i < count) where
    abbrev done : List Rule
    done = map (rule_in t) xs

    abbrev left : ℕ
    left = count - (i + 1)

    here : rules_of t ≡ onto done (outside (rule_at t at) >>= onwards left done t)
    unfolding rules_from
    here = let e : count - i ≡ suc left = omega arith in s.whole ∙ rw e

    pub stops : {q : Refusal} → refused q ≡ new_rule_at done t at → rules_of t ≡ refused q
    stops e = here ∙ turn_refused t at done left (sym e)

    module _ {x : Loaded} (e : ok x ≡ new_rule_at done t at) where
      new : (outside (rule_at t at) ≡ ok x) × (named_in done x.rule.name ≡ false)
      new = turn_ok t at done (sym e)

      read : RuleRead t at x
      read = rule_read t at (outside_ok _ new.0)

      more : rules_of t ≡ onto (done ++ (rule_in t at ∷ [])) (rules_from left (rule_in t at ∷ done) t x.next)
      more = here ∙ rw (new.0, new.1, ← read.is) (onto_more done (rule_in t at) (rules_from left (rule_in t at ∷ done) t x.next))

      one_more : StartsThere t (xs ++ (at ∷ []))
      one_more j h =
          ⊎_elim
          (λ g. let e : j ≡ length xs = omega (arith, length-append xs (at ∷ [])) in rw (e, get_or-append_seam xs at [] 0) read.inside)
          (λ g. rw (get_or-append xs (at ∷ []) 0 j g) (s.there j g))
          (order (length xs) j)

      pub goes_on : Stands count (i + 1) x.next (xs ++ (at ∷ []))
      goes_on =
          record {
            whole = rw (map_last t xs at)
                (more
                ∙ ap (onto (done ++ (rule_in t at ∷ [])))
                (rules_alike left (rule_in t at ∷ done) (done ++ (rule_in t at ∷ [])) (given_last (rule_in t at) done) t x.next));
            there = one_more;
            distinct = rw (map_last t xs at) (distinct_last done (rule_in t at) s.distinct (rw (← read.is) at new.1));
            total = rw (length-append xs (at ∷ [])) (omega (arith, s.total));
            upto = omega arith;
          }

  -- the place is kept
  pub stored : {count at : ℕ} (place : ℕ) (starts : List ℕ) (i : ℕ) → i < length starts
      → Stands count (i + 1) at (take i starts ++ (place ∷ [])) → Stands count (i + 1) at (take (i + 1) (set starts i place))
  stored place starts i h s =
      let e : take (i + 1) (set starts i place) ≡ take i starts ++ (place ∷ []) = rw add-one (take-suc-set starts i place h) in
      rw e s

  -- ---- The end
  module _ {count i at : ℕ} {xs : List ℕ} (s : Stands count i at xs) (h : count ≤ i) where
    no_more : count - i ≡ 0
    no_more = omega arith

    pub left_over : {q : Refusal} → refused q ≡ check (eqb at (length t)) outside_bounds 0 → rules_of t ≡ refused q
    unfolding rules_from
    left_over e = s.whole ∙ rw (no_more, ← e)

    all_read : {u : Unit {0}} → ok u ≡ check (eqb at (length t)) outside_bounds 0 → rules_of t ≡ ok (map (rule_in t) xs)
    unfolding rules_from
    all_read e = s.whole ∙ rw (no_more, ← e, append-nil (map (rule_in t) xs))

  -- ---- The answer
  pub refused_loads : {given : Out (List Rule)} {q : Refusal} → rules_of t ≡ refused q → given ≡ refused q → given ≡ rules_of t
  refused_loads e g = g ∙ sym e

  pub all_loads : {count i at : ℕ} (starts : List ℕ) → Stands count i at (take i starts) → count ≤ i
      → {u : Unit {0}} → ok u ≡ check (eqb at (length t)) outside_bounds 0 → ok (map (rule_in t) (take count starts)) ≡ rules_of t
  all_loads {count} {i} starts s h e = let c : count ≡ i = omega (arith, s.upto) in rw c (sym (all_read s h e))

-- ---- A loaded table
pub rules_there : {t starts : List ℕ} → rules_of t ≡ ok (map (rule_in t) starts) → StartsThere t starts → RulesThere t starts
rules_there {t} e h = let l = loaded t _ e in record { starts = h; distinct = l.distinct; allowed = l.allowed }
