-- The propositions of accepted tables stand in proposition order, by 16: induction on the table's trace.
use Prim.Native.Nat.{ℕ, suc}
use mathlib.Core.Path.{◌≡◌, refl, subst}
use mathlib.Core.Bool.{true}
use mathlib.Core.List.Memᴰ
use mathlib.Core.List.{List, ◌∷◌, Memᴰ}
use lib.ListN.{drop}
use Rattle.local_format.specs.Out.{ok}
use Rattle.local_format.proofs.OutLaws.{bind_ok, checked_ok, ok_same}
use Rattle.derivation.specs.Rule.{Rule}
use Rattle.derivation.specs.Section as derivation
use Rattle.evr0_section.specs.Rows.{Row, Entry}
use Rattle.evr0_section.specs.Head.{Room}
use Rattle.evr0_section.specs.Proposition.{Proposition, Key, key_of, Order, less, equal, greater, is_less, compare_keys}
use Rattle.evr0_section.specs.Proposition.{Before, first, after, rises, proposition_of, proposition_row}
use Rattle.evr0_section.specs.Section.{Tables, section_of, tables_of}
use Rattle.evr0_compare.specs.Compare
use Rattle.evr0_compare.specs.Compare.{Standing, standings_from, standings, Below, Rising, standing_key}
use Rattle.evr0_section.proofs.RowsLaws.{Trace, none, more, trace}
use Rattle.evr0_section.proofs.CheckedTables.{steps}
use Rattle.evr0_compare.proofs.KeyOrder.{keys_ordered}

-- ---- What 16 says of a row
abbrev Follows : Before → Key → Type 0
Follows first b = Unit {0}
Follows (after a) b = Below a b

is_less_lem : (o : Order) → is_less o ≡ true → o ≡ less
is_less_lem less e = refl
is_less_lem equal e = cc
is_less_lem greater e = cc

follows : (before : Before) (b : Key) → rises before b ≡ true → Follows before b
unfolding rises
follows first b e = tt
follows (after a) b e = is_less_lem (compare_keys a b) e

follows_on : (before : Before) (a b : Key) → Follows before a → Below a b → Follows before b
follows_on first a b f l = tt
follows_on (after k) a b f l = keys_ordered.trans k a b f l

row_rises : (before : Before) (s : List ℕ) (r : Row Proposition Before) → proposition_row before s ≡ ok r
    → Follows before (key_of s r.item) × (r.state ≡ after (key_of s r.item))
unfolding proposition_row
row_rises before s r e =
    let a = bind_ok (proposition_of s) _ e in
    let b = checked_ok (rises before (key_of s a.0.item)) 16 0 _ a.2 in
    rw (← ok_same b.1) (follows before _ b.0, refl)

-- ---- All rows
record Risen (before : Before) (xs : List Standing) : Type 0 where
  rising : Rising standing_key xs
  above : (x : Standing) → Memᴰ x xs → Follows before x.key

risen_more : (before : Before) (x : Standing) (xs : List Standing) → Follows before x.key → Risen (after x.key) xs → Risen before (x ∷ xs)
risen_more before x xs f h = record { rising = Compare.also h.above h.rising; above = above }
  where
    above : (y : Standing) → Memᴰ y (x ∷ xs) → Follows before y.key
    above y (Memᴰ.head e) = rw e f
    above y (Memᴰ.tail m) = follows_on before x.key y.key f (h.above y m)

trace_risen : {p : List ℕ} {n at end : ℕ} {before last : Before} {es : List (Entry Proposition)} (s : derivation.Section) (number : ℕ)
    → Trace proposition_row p n before at es last end → Risen before (standings_from p s number es)
unfolding standings_from
trace_risen s number none = record { rising = Compare.none; above = λ x m. absurd (Memᴰ.not-nil m) }
trace_risen {p = p} s number (more {at = at} {state = before} {es = es} r e w) =
    let (f, state) = row_rises before (drop at p) r e in
    risen_more before _ _ f (subst (λ (b : Before). Risen b (standings_from p s (suc number) es)) state (trace_risen s (suc number) w))

pub keys_rise : (rules : List Rule) (room : Room) (p : List ℕ) (t : Tables) → tables_of rules room p ≡ ok t → Rising standing_key (standings p t)
keys_rise rules room p t e = (trace_risen (section_of t) 0 (trace proposition_row p _ _ _ t.propositions (steps rules room p t e).propositions)).rising
