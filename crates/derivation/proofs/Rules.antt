-- The rule of a name, and the four rules: membership in the table by cases.
use Prim.Native.Nat.{ℕ}
use mathlib.Core.Path.{◌≡◌, refl, sym, ap, ◌∙◌, subst}
use mathlib.Core.Logic.{◌↔◌, ◌⊎◌, inl, inr, ⊎_elim}
use mathlib.Core.Bool.{Bool, true, false, cond}
use mathlib.Core.List.{List, [], ◌∷◌, Memᴰ}
use native.Mathlib.Omega.{arith}
use Rattle.local_format.specs.Tag.{equal}
use Rattle.local_format.proofs.TagLaws.{equal_is}
use Rattle.derivation.specs.Rule.{Rule, Shaped, by_witness, by_parents, known, rule_named, pos_witness1, neg_witness1, join_same_p1, op_t_only1, four_rules}

-- ---- Any table of rules

-- a rule found is in the table, and has the name
pub named : (rs : List Rule) (name : List ℕ) (r : Rule) → rule_named rs name ≡ known r → Memᴰ r rs × (name ≡ r.name)
unfolding rule_named
named [] name r e = absurd (let z : ◌≡◌ {A = ℕ} 0 1 = cc in omega arith)
named (x ∷ rs) name r e = go (equal name x.name) refl (named rs name r) e
  where
    go : (b : Bool) → equal name x.name ≡ b → (rule_named rs name ≡ known r → Memᴰ r rs × (name ≡ r.name))
        → cond b (known x) (rule_named rs name) ≡ known r
        → Memᴰ r (x ∷ rs) × (name ≡ r.name)
    go true q later e = let p : r ≡ x = cc in (Memᴰ.head p, equal_is name x.name q ∙ ap (λ (r : Rule). r.name) (sym p))
    go false q later e = (Memᴰ.tail (later e).0, (later e).1)

-- ---- The four

module _ (P : Rule → Type 0) (pos : P pos_witness1) (neg : P neg_witness1) (join : P join_same_p1) (op : P op_t_only1) where
  -- what holds of each of the four
  pub of_four : (r : Rule) → Memᴰ r four_rules → P r
  unfolding four_rules
  of_four r (Memᴰ.head e) = subst P (sym e) pos
  of_four r (Memᴰ.tail (Memᴰ.head e)) = subst P (sym e) neg
  of_four r (Memᴰ.tail (Memᴰ.tail (Memᴰ.head e))) = subst P (sym e) join
  of_four r (Memᴰ.tail (Memᴰ.tail (Memᴰ.tail (Memᴰ.head e)))) = subst P (sym e) op
  of_four r (Memᴰ.tail (Memᴰ.tail (Memᴰ.tail (Memᴰ.tail x)))) = elim x [ ]

pub four_shaped : (r : Rule) → Memᴰ r four_rules → Shaped r
four_shaped =
    of_four Shaped
    (by_witness refl refl (omega arith))
    (by_witness refl refl (omega arith))
    (by_parents refl (omega arith) (omega arith) refl)
    (by_parents refl (omega arith) (omega arith) refl)

four_found : (r : Rule) → Memᴰ r four_rules → rule_named four_rules r.name ≡ known r
unfolding four_rules rule_named equal
four_found = of_four (λ r. rule_named four_rules r.name ≡ known r) refl refl refl refl

-- of the four, the name finds exactly the rule that has it
pub four_named : (name : List ℕ) (r : Rule) → (rule_named four_rules name ≡ known r) ↔ (Memᴰ r four_rules × (name ≡ r.name))
four_named name r = (named four_rules name r, λ h. ap (rule_named four_rules) h.1 ∙ four_found r h.0)

-- of the four, those with one witness are POS-WITNESS-1, which asks polarity 1, and NEG-WITNESS-1, which asks 0
pub one_witness : (r : Rule) → Memᴰ r four_rules → (n : ℕ)
    → ((r.witnesses ≡ 1) × (n ≡ r.polarity)) ↔ (((r ≡ pos_witness1) × (n ≡ 1)) ⊎ ((r ≡ neg_witness1) × (n ≡ 0)))
one_witness r m n = (
  of_four
      (λ r. (r.witnesses ≡ 1) × (n ≡ r.polarity) → ((r ≡ pos_witness1) × (n ≡ 1)) ⊎ ((r ≡ neg_witness1) × (n ≡ 0)))
      (λ h. inl (refl, h.1))
      (λ h. inr (refl, h.1))
      (λ h. absurd (omega arith))
      (λ h. absurd (omega arith))
      r
      m,
  ⊎_elim
      (λ h. (ap (λ (r : Rule). r.witnesses) h.0, h.1 ∙ sym (ap (λ (r : Rule). r.polarity) h.0)))
      (λ h. (ap (λ (r : Rule). r.witnesses) h.0, h.1 ∙ sym (ap (λ (r : Rule). r.polarity) h.0))),
)

-- of the four, the join alone has two parents
pub two_parents : (r : Rule) → Memᴰ r four_rules → (r.parents ≡ 2) ↔ (r ≡ join_same_p1)
two_parents r m = (
  of_four
      (λ r. r.parents ≡ 2 → r ≡ join_same_p1)
      (λ h. absurd (omega arith))
      (λ h. absurd (omega arith))
      (λ h. refl)
      (λ h. absurd (omega arith))
      r
      m,
  ap (λ (r : Rule). r.parents),
)
