-- Laws of one rule at a place of a table: what reading it answers, by what its text and its numbers are.
use Prim.Native.Nat.{ℕ, ◌+◌, ◌≤◌}
use mathlib.Core.Path.{◌≡◌, refl, sym, ap, ◌∙◌}
use mathlib.Core.Bool.{Bool}
use mathlib.Core.List.{List}
use native.Mathlib.Omega.{arith}
use lib.ListN.{length, length-take, length-drop}
use Rattle.local_format.specs.Out.{ok, check, ◌>>◌}
use Rattle.local_format.specs.Field.{Got, le, whole, or_cut, field_at}
use Rattle.local_format.specs.Text.{Span, section_field, text_at}
use Rattle.local_format.proofs.OutLaws.{ok_same, bind_ok, checked_ok}
use Rattle.local_format.proofs.FieldLaws.{field_ok}
use Rattle.local_format.proofs.TextLaws.{text_ok}
use Rattle.rule_table.specs.Load.{outside_bounds, bounded, rule_in, Loaded, rule_at}
use Rattle.rule_table.proofs.Load.{text_read}
use Rattle.evr0_rules.specs.declared.rule.Rule as code
use Rattle.evr0_rules.specs.Maps.{rule_out}

module _ (t : List ℕ) (at : ℕ) where
  -- the name that was read has as many bytes as its length says
  pub name_length : at + 2 + le 2 t at ≤ length t → length (rule_in t at).name ≡ le 2 t at
  unfolding rule_in
  name_length h = rw (length-take, length-drop) (omega arith)

  -- a text and four bytes were read
  module _ {x : Span} {n : Got} (e : ok x ≡ text_at t at) (f : whole n ≡ field_at 4 t x.next) where
    ends : (x.next ≡ at + 2 + le 2 t at) × (x.len ≡ le 2 t at) × (x.next + 4 ≤ length t)
    ends =
        let a = text_ok t at (sym e) in
        let b = text_read t at (sym e) in
        let k = field_ok 5 4 t x.next (ap (or_cut 5 x.next) (sym f)) in
        (b.end, omega (arith, a.3, b.end), omega (arith, k.1))

    pub numbers_there : at + 6 + le 2 t at ≤ length t
    numbers_there = omega (arith, ends.0, ends.2)

    -- what is read hangs on whether the code finds the rule within its bounds
    pub reads : {b : Bool} {r : code.Rule} → ((name : List ℕ) → length name ≡ x.len → b ≡ bounded (rule_out name r))
        → rule_out (rule_in t at).name r ≡ rule_in t at
        → (check b outside_bounds 0 >> ok (record { rule = rule_in t at; next = n.next })) ≡ rule_at t at
    unfolding rule_at
    reads {b} h is =
        let inside : at + 2 + le 2 t at ≤ length t = omega (arith, numbers_there) in
        let bound : b ≡ bounded (rule_in t at) = h _ (name_length inside ∙ sym ends.1) ∙ ap bounded is in
        rw (← e, ← f, bound) refl

  pub record RuleRead (x : Loaded) : Type 0 where
    pub is : rule_in t at ≡ x.rule
    pub next : x.next ≡ at + 6 + le 2 t at
    pub inside : at + 6 + le 2 t at ≤ length t

  pub rule_read : {x : Loaded} → rule_at t at ≡ ok x → RuleRead x
  unfolding rule_at
  rule_read {x} e =
      let (name, f, e1) = bind_ok (text_at t at) _ e in
      let (numbers, g, e2) = bind_ok (section_field 4 t name.next) _ e1 in
      let (b, e3) = checked_ok (bounded (rule_in t at)) outside_bounds 0 _ e2 in
      let n = (text_read t at f).end in
      let k = field_ok 5 4 t name.next g in
      let m : numbers.next ≡ x.next = ap (λ (x : Loaded). x.next) (ok_same e3) in
      record {
        is = ap (λ (x : Loaded). x.rule) (ok_same e3);
        next = omega (arith, m, n, k.0);
        inside = omega (arith, n, k.1);
      }
