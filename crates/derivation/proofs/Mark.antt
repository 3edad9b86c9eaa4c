-- The marks of an accepted section are those of Slip 5. A mark holds a polarity where it is not 0 and not the other polarity's mark; a mark
-- made from the parents' holds what one of them holds. So along a walk the start's mark holds the end's polarity (induction on the walk), and
-- what a mark holds some walk ends at (induction on the proof's number).
use Prim.Native.Nat.{ℕ, zero, suc, ◌-◌, ◌≤◌, ◌<◌}
use mathlib.Core.Path.{◌≡◌, refl, sym, ap, ◌∙◌, subst}
use mathlib.Core.Logic.{◌↔◌, ◌⊎◌, inl, inr, ⊎_elim}
use mathlib.Core.Bool.{Bool, true, false, cond}
use mathlib.Core.List.{List, [], ◌∷◌}
use native.Mathlib.Decide.{ℕ_discrete}
use native.Mathlib.Omega.{arith}
use lib.ListN.{length, get_or}
use lib.Seq.{ext_get_or}
use lib.Dec.{eqb}
use borrow.Author.Tests.{eqb-true, eqb-false}
use Rattle.local_format.specs.Out.{ok}
use Rattle.derivation.specs.Section.{Section, Checked, proof_at, parent_at, proof_total, OwnsParent}
use Rattle.derivation.specs.Pass.{depths}
use Rattle.derivation.specs.Walk.{Walk, stay, move, AtEnd}
use Rattle.derivation.specs.InOrder.{gathered}
use Rattle.derivation.specs.Mark.{end_polarity, SomeEnds, AllEnd, Marked, Marks, end_mark, joined, mark_of, marks}
use Rattle.derivation.proofs.Tests.{order}
use Rattle.derivation.proofs.Laws.{mark_end, mark_inner}
use Rattle.derivation.proofs.InOrder.{made, gathered_local, from_parent, from_some}
use Rattle.derivation.proofs.Sound.{pass_sound}
use Rattle.derivation.proofs.Demand.{walks_lead, walks_end}

same_or_not : (a b : ℕ) → (a ≡ b) ⊎ (a ≡ b → ⊥)
same_or_not a b = elim (ℕ_discrete a b) [ yes h ↦ inl h | no h ↦ inr h ]

-- ---- Two marks together
module _ (P : ℕ → Type 0) (a b : ℕ) where
  joined_cases : (a ≡ 0 → P b) → (b ≡ 0 → P a) → (a ≡ b → P a) → ((a ≡ 0 → ⊥) → (b ≡ 0 → ⊥) → (a ≡ b → ⊥) → P 3) → P (joined a b)
  unfolding joined
  joined_cases p q r t = go (eqb a 0) (eqb b 0) (eqb a b) refl refl refl
    where
      go : (x y z : Bool) → eqb a 0 ≡ x → eqb b 0 ≡ y → eqb a b ≡ z → P (cond x b (cond y a (cond z a 3)))
      go true y z d e f = p (eqb-true a 0 d)
      go false true z d e f = q (eqb-true b 0 e)
      go false false true d e f = r (eqb-true a b f)
      go false false false d e f = t (eqb-false a 0 d) (eqb-false b 0 e) (eqb-false a b f)

joined_large : (a b : ℕ) → 3 < joined a b → (3 < a) ⊎ (3 < b)
joined_large a b = joined_cases (λ m. 3 < m → (3 < a) ⊎ (3 < b)) a b (λ _. inr) (λ _. inl) (λ _. inl) (λ _ _ _ h. absurd (omega arith))

-- a mark holds a polarity, where `other` is the mark of the other one
record Holds (other mark : ℕ) : Type 0 where
  some : mark ≡ 0 → ⊥
  not : mark ≡ other → ⊥

module _ (o : ℕ) (low : o < 3) (a b : ℕ) where
  holds_left : Holds o a → Holds o (joined a b)
  holds_left h =
      joined_cases (Holds o) a b (λ z. absurd (h.some z)) (λ _. h) (λ _. h) (λ _ _ _. record { some = omega arith; not = omega arith })

  holds_right : Holds o b → Holds o (joined a b)
  holds_right h =
      joined_cases (Holds o) a b (λ _. h) (λ z. absurd (h.some z)) (λ e. subst (Holds o) (sym e) h) (λ _ _ _. record { some = omega arith; not = omega arith })

  holds_one : Holds o (joined a b) → Holds o a ⊎ Holds o b
  holds_one =
      joined_cases (λ m. Holds o m → Holds o a ⊎ Holds o b) a b (λ _. inr) (λ _. inl) (λ _. inl)
      (λ p q r _. ⊎_elim (λ e. inr (record { some = q; not = omega arith })) (λ e. inl (record { some = p; not = e })) (same_or_not a o))

-- the mark of an end: 2 - n is the mark of the polarity n, and suc n that of the other
end_mark_lem : (n : ℕ) → n ≤ 1 → end_mark n ≡ 2 - n
end_mark_lem n l = go (eqb n 1) refl
  where
    go : (b : Bool) → eqb n 1 ≡ b → cond b 1 2 ≡ 2 - n
    go true e = omega (arith, eqb-true n 1 e)
    go false e = omega (arith, eqb-false n 1 e)

-- what is said of a mark determines it
pub one_mark : {s : Section} {i m n : ℕ} → Marked s i m → Marked s i n → m ≡ n
one_mark {s} {i} {m} {n} a b =
    ⊎_elim
    (λ e. e ∙ sym (b.one.1 (a.one.0 e)))
    (λ p. ⊎_elim
    (λ e. e ∙ sym (b.two.1 (a.two.0 e)))
    (λ q. let none : (AllEnd s i 1 → ⊥) × (AllEnd s i 0 → ⊥) = (λ h. p (a.one.1 h), λ h. q (a.two.1 h)) in a.three.1 none ∙ sym (b.three.1 none))
    (same_or_not m 2))
    (same_or_not m 1)

abbrev mark_at : Section → ℕ → ℕ
mark_at s i = get_or (marks s) i 0

module _ (cells_at : ℕ) (s : Section) (checked : Checked s) (ds : List ℕ) (accepted : depths cells_at s ≡ ok ds) where
  below : (i c : ℕ) → i < proof_total s → OwnsParent s i c → parent_at s c < i
  below i c l o = omega (arith, checked.proof_number i l, (((pass_sound cells_at s checked.proof_number ds accepted).1 i l).kin c o).below)

  mark_local : (i : ℕ) (xs ys : List ℕ) → i < proof_total s → ((j : ℕ) → j < i → get_or xs j 0 ≡ get_or ys j 0) → mark_of s i xs ≡ mark_of s i ys
  unfolding mark_of
  mark_local i xs ys l same =
      ap (λ (m : ℕ). cond (eqb (proof_at s i).parent_count 0) (end_mark (end_polarity s i)) m)
      (gathered_local joined s xs ys _ _ 0 (λ c o. same (parent_at s c) (below i c l o)))

  marks_made : (length (marks s) ≡ proof_total s) × ((i : ℕ) → i < proof_total s → mark_at s i ≡ mark_of s i (marks s))
  unfolding marks
  marks_made = made (mark_of s) (proof_total s) mark_local

  at_end : (i : ℕ) → i < proof_total s → AtEnd s i → mark_at s i ≡ end_mark (end_polarity s i)
  unfolding AtEnd
  at_end i l z = marks_made.1 i l ∙ mark_end s i (marks s) z

  by_parents : (i : ℕ) → i < proof_total s → 0 < (proof_at s i).parent_count
      → mark_at s i ≡ gathered joined s (marks s) (proof_at s i).parent_count (proof_at s i).first_parent 0
  by_parents i l z = marks_made.1 i l ∙ mark_inner s i (marks s) (omega arith)

  -- ---- Along a walk
  end_low : {i k : ℕ} {cs : List ℕ} → Walk s i cs k → AtEnd s k → end_polarity s k ≤ 1
  unfolding end_polarity
  end_low {i} {k} {cs} w z = checked.witness_polarity _ ((walks_lead cells_at s checked ds accepted i cs k w).witnessed z).there

  held : {i k : ℕ} {cs : List ℕ} → Walk s i cs k → AtEnd s k → Holds (suc (end_polarity s k)) (mark_at s i)
  held {i} (stay l) z =
      let low : end_polarity s i ≤ 1 = end_low (stay l) z in
      let e : mark_at s i ≡ 2 - end_polarity s i = at_end i l z ∙ end_mark_lem _ low in
      record { some = omega arith; not = omega arith }
  held {k = k} (move {i = i} {j = j} {c = c} l o h n w) z =
      let low : end_polarity s k ≤ 1 = end_low w z in
      let e : j ≡ parent_at s c = sym (checked.proof_number j h) ∙ n in
      let other : ℕ = suc (end_polarity s k) in
      subst (Holds other) (sym (by_parents i l (omega (arith, o.from, o.upto))))
      (from_parent joined (Holds other) (holds_left other (omega arith)) (holds_right other (omega arith)) s (marks s) _ _ 0 c o
      (subst (λ (j : ℕ). Holds other (mark_at s j)) e (held w z)))

  -- ---- By the proof's number
  record Known (i : ℕ) : Type 0 where
    small : mark_at s i ≤ 3
    ends : (n : ℕ) → n ≤ 1 → Holds (suc n) (mark_at s i) → SomeEnds s i n

  extended : (i c n : ℕ) → i < proof_total s → OwnsParent s i c → SomeEnds s (parent_at s c) n → SomeEnds s i n
  extended i c n l o r =
      let h : parent_at s c < proof_total s = omega (arith, below i c l o) in
      record {
        picks = c ∷ r.picks;
        last = r.last;
        walk = move l o h (checked.proof_number _ h) r.walk;
        end = r.end;
        polarity = r.polarity;
      }

  known_end : (i : ℕ) → i < proof_total s → AtEnd s i → Known i
  known_end i l z =
      let low : end_polarity s i ≤ 1 = end_low (stay l) z in
      let e : mark_at s i ≡ 2 - end_polarity s i = at_end i l z ∙ end_mark_lem _ low in
      record {
        small = omega arith;
        ends = λ n u h. record { picks = []; last = i; walk = stay l; end = z; polarity = omega (arith, h.not) };
      }

  known_inner : (i : ℕ) → i < proof_total s → 0 < (proof_at s i).parent_count → ((c : ℕ) → OwnsParent s i c → Known (parent_at s c)) → Known i
  known_inner i l z parents =
      let e = by_parents i l z in
      record {
        small = ⊎_elim (λ h. h)
            (λ h. ⊎_elim (λ q. absurd (omega arith)) (λ q. absurd (omega (arith, q.2, (parents q.0 q.1).small)))
            (from_some joined (λ m. 3 < m) joined_large s (marks s) _ _ 0 (subst (λ m. 3 < m) e h)))
            (order (mark_at s i) 3);
        ends = λ n u h.
            ⊎_elim (λ q. absurd (q.some refl)) (λ q. extended i q.0 n l q.1 ((parents q.0 q.1).ends n u q.2))
            (from_some joined (Holds (suc n)) (holds_one (suc n) (omega arith)) s (marks s) _ _ 0 (subst (Holds (suc n)) e h));
      }

  known : (fuel i : ℕ) → i < fuel → i < proof_total s → Known i
  unfolding AtEnd
  known zero i f l = absurd (omega arith)
  known (suc fuel) i f l =
      ⊎_elim
      (λ z. known_end i l (omega arith))
      (λ z. known_inner i l z (λ c o. known fuel (parent_at s c) (omega (arith, below i c l o)) (omega (arith, below i c l o))))
      (order (proof_at s i).parent_count 0)

  -- ---- What the mark says
  module _ (i : ℕ) (l : i < proof_total s) where
    is : Known i
    is = known (proof_total s) i l l

    some : mark_at s i ≡ 0 → ⊥
    some =
        let e = (walks_end cells_at s checked ds accepted).ending i [] i (stay l) in
        (held e.walk e.end).some

    ends_held : (n : ℕ) → SomeEnds s i n → Holds (suc n) (mark_at s i)
    ends_held n r = subst (λ (n : ℕ). Holds (suc n) (mark_at s i)) r.polarity (held r.walk r.end)

    some_of : (n : ℕ) → n ≤ 1 → SomeEnds s i n ↔ ((mark_at s i ≡ 2 - n) ⊎ (mark_at s i ≡ 3))
    some_of n u = (
      (λ r. ⊎_elim inl (λ d. inr (omega (arith, is.small, (ends_held n r).some, (ends_held n r).not, d))) (same_or_not (mark_at s i) (2 - n))),
      ⊎_elim
          (λ e. is.ends n u (record { some = omega arith; not = omega arith }))
          (λ e. is.ends n u (record { some = omega arith; not = omega arith })),
    )

    all_of : (n : ℕ) → n ≤ 1 → (mark_at s i ≡ 2 - n) ↔ AllEnd s i n
    unfolding AllEnd
    all_of n u = (
      (λ e cs k w z. omega (arith, end_low w z, (held w z).not)),
      (λ all. ⊎_elim (λ e. e)
          (λ d. let r = is.ends (1 - n) (omega arith) (record { some = some; not = omega arith }) in
          absurd (omega (arith, all r.picks r.last r.walk r.end, r.polarity)))
          (same_or_not (mark_at s i) (2 - n))),
    )

    is_marked : Marked s i (mark_at s i)
    is_marked =
        let one : (mark_at s i ≡ 1) ↔ AllEnd s i 1 = all_of 1 (omega arith) in
        let two : (mark_at s i ≡ 2) ↔ AllEnd s i 0 = all_of 0 (omega arith) in
        record {
          one = one;
          two = two;
          three = (
            (λ e. (λ a. omega (arith, one.1 a), λ a. omega (arith, two.1 a))),
            (λ h. let p : mark_at s i ≡ 1 → ⊥ = λ e. h.0 (one.0 e) in let q : mark_at s i ≡ 2 → ⊥ = λ e. h.1 (two.0 e) in omega (arith, some, is.small)),
          );
          positive = some_of 1 (omega arith);
          negative = some_of 0 (omega arith);
        }

  -- one mark for each proof, and each says what Slip 5 has it say
  pub marks_are : Marks s (marks s)
  marks_are = record { total = marks_made.0; marked = is_marked }

  -- and only these marks do
  pub marks_only : (ms : List ℕ) → Marks s ms → ms ≡ marks s
  marks_only ms h =
      ext_get_or 0 ms (marks s) (h.total ∙ sym marks_made.0) (λ i g.
      let l : i < proof_total s = omega (arith, h.total) in one_mark (h.marked i l) (is_marked i l))
