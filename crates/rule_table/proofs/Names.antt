-- The rule of a name where no two rules have one name: the one that has it, in whatever order the table is. The four as a table.
use Prim.Native.Nat.{ℕ}
use mathlib.Core.Path.{◌≡◌, refl, sym, ap, ◌∙◌}
use mathlib.Core.Logic.{◌↔◌}
use mathlib.Core.List.{List, Memᴰ}
use Rattle.local_format.specs.Out.{Out, ok}
use Rattle.local_format.specs.Field.{le, field_at}
use Rattle.local_format.specs.Text.{Span, text_at}
use Rattle.local_format.specs.Tag.{equal}
use Rattle.utf8.specs.Utf8 as utf8
use Rattle.derivation.specs.Rule.{Rule, Named, known, unknown, rule_named, four_rules}
use Rattle.rule_table.specs.Load.{is_shaped, bounded, rule_in, rule_at, named_in, rules_from, rules_of, Distinct, also, rule_bytes, each_rule, written, none}
use Rattle.derivation.proofs.Rules.{named}
use Rattle.local_format.proofs.TagLaws.{equal_self, differ}
use Rattle.rule_table.proofs.Load.{loaded}

found : {rs : List Rule} {r : Rule} → Distinct rs → Memᴰ r rs → rule_named rs r.name ≡ known r
unfolding rule_named
found {r = r} (also {r = x} other d) (Memᴰ.head e) = simp (e, equal_self x.name)
found {r = r} (also {r = x} other d) (Memᴰ.tail m) = simp (differ r.name x.name (other r m)) (found d m)
found {r = r} none x3 = elim x3 [ ]

-- the name finds exactly the rule that has it
pub loaded_named : {rs : List Rule} → Distinct rs → (name : List ℕ) (r : Rule) → (rule_named rs name ≡ known r) ↔ (Memᴰ r rs × (name ≡ r.name))
loaded_named {rs} d name r = (named rs name r, λ h. ap (rule_named rs) h.1 ∙ found d h.0)

-- the order of the rules does not matter
pub any_order : {rs qs : List Rule} → Distinct rs → Distinct qs → ((r : Rule) → Memᴰ r rs ↔ Memᴰ r qs)
    → (name : List ℕ) → rule_named rs name ≡ rule_named qs name
any_order {rs} {qs} d e same name = go (rule_named rs name) refl (rule_named qs name) refl
  where
    go : (x : Named) → rule_named rs name ≡ x → (y : Named) → rule_named qs name ≡ y → x ≡ y
    go (known r) p y q = let m = (loaded_named d name r).0 p in sym ((loaded_named e name r).1 ((same r).0 m.0, m.1)) ∙ q
    go unknown p (known r) q = let m = (loaded_named e name r).0 q in sym p ∙ (loaded_named d name r).1 ((same r).1 m.0, m.1)
    go unknown p unknown q = refl

-- ---- The four

-- to unfold these is to unfold all that reading a text, and loading, go through
unfoldable reading : List ℕ → ℕ → Out Span
unfolding le field_at text_at utf8.table utf8.lead_of utf8.later_of utf8.step_of utf8.decode_from utf8.decode utf8.is_control utf8.any_control
reading s at = text_at s at

unfoldable loading : List ℕ → Out (List Rule)
unfolding reading equal is_shaped bounded rule_in rule_at named_in rules_from rules_of rule_bytes each_rule written four_rules
loading s = rules_of s

-- the four, written as a table, load to the four
pub four_load : rules_of (written four_rules) ≡ ok four_rules
unfolding loading
four_load = refl

pub four_distinct : Distinct four_rules
four_distinct = (loaded (written four_rules) four_rules four_load).distinct
