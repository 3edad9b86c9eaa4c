-- The four by their names, each in the definition's order.
use Prim.Native.Nat.{ℕ}
use mathlib.Core.Path.{◌≡◌, ap, ◌∙◌}
use mathlib.Core.Bool.{true, false}
use mathlib.Core.List.{List}
use Rattle.local_format.specs.Tag.{equal, pos_witness, neg_witness, join_same_p, op_t_only}
use Rattle.local_format.proofs.TagLaws.{equal_is}
use Rattle.derivation.specs.Rule.{Rule, known, unknown, rule_named, four_rules, pos_witness1, neg_witness1, join_same_p1, op_t_only1}

-- a rule's numbers under a name
abbrev pub under : List ℕ → Rule → Rule
under name r =
    record { name = name; witnesses = r.witnesses; parents = r.parents; operation = r.operation; polarity = r.polarity }

module _ (name : List ℕ) where
  pub is_pos : equal name pos_witness ≡ true → known (under name pos_witness1) ≡ rule_named four_rules name
  unfolding rule_named four_rules
  is_pos e = ap (λ (n : List ℕ). known (under n pos_witness1)) (equal_is name pos_witness e) ∙ rw e

  module _ (p : equal name pos_witness ≡ false) where
    pub is_neg : equal name neg_witness ≡ true → known (under name neg_witness1) ≡ rule_named four_rules name
    unfolding rule_named four_rules
    is_neg e = ap (λ (n : List ℕ). known (under n neg_witness1)) (equal_is name neg_witness e) ∙ rw (p, e)

    module _ (n : equal name neg_witness ≡ false) where
      pub is_join : equal name join_same_p ≡ true → known (under name join_same_p1) ≡ rule_named four_rules name
      unfolding rule_named four_rules
      is_join e = ap (λ (n : List ℕ). known (under n join_same_p1)) (equal_is name join_same_p e) ∙ rw (p, n, e)

      module _ (j : equal name join_same_p ≡ false) where
        pub is_op : equal name op_t_only ≡ true → known (under name op_t_only1) ≡ rule_named four_rules name
        unfolding rule_named four_rules
        is_op e = ap (λ (n : List ℕ). known (under n op_t_only1)) (equal_is name op_t_only e) ∙ rw (p, n, j, e)

        pub is_none : equal name op_t_only ≡ false → unknown ≡ rule_named four_rules name
        unfolding rule_named four_rules
        is_none e = rw (p, n, j, e)
