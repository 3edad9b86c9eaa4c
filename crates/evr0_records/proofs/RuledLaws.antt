-- What stands at a place is no rule's name, where no text is there or its bytes name none.
use Prim.Native.Nat.{ℕ, ◌+◌, ◌≤◌, ◌<◌}
use mathlib.Core.Path.{◌≡◌, sym, ap, ◌∙◌}
use mathlib.Core.List.{List}
use native.Mathlib.Omega.{arith}
use lib.ListN.{length}
use Rattle.local_format.specs.Out.{ok}
use Rattle.local_format.specs.Field.{le}
use Rattle.local_format.specs.Text.{Span, bytes_at, text_at}
use Rattle.local_format.proofs.TextLaws.{text_ok}
use Rattle.local_format.specs.Field.{whole, cut, field_at, or_cut}
use Rattle.local_format.proofs.OutLaws.{never}
use Rattle.local_format.proofs.FieldLaws.{field_ok}
use Rattle.local_format.proofs.TextLaws.{text_no_length}
use Rattle.derivation.specs.Rule.{Rule, unknown, rule_named}
use Rattle.rule_table.proofs.Load.{text_read}
use Rattle.evr0_records.specs.Ruled.{NoneNamed}

-- where a text's bytes are
pub text_place : (s : List ℕ) (at : ℕ) {t : Span} → text_at s at ≡ ok t → (t.start ≡ at + 2) × (t.len ≡ le 2 s at) × (at + 2 + le 2 s at ≤ length s)
text_place s at e =
    let a = text_ok s at e in
    let b = text_read s at e in
    (a.0, omega (arith, a.3, b.end), b.inside)

-- ---- What stands at a place, and the rules' names
module _ (rules : List Rule) (s : List ℕ) (at : ℕ) where
  pub none_cut : cut ≡ field_at 2 s at → NoneNamed rules s at
  none_cut e = λ t k. absurd (never (text_no_length s at e ∙ k))

  module _ {len start : ℕ} (e : whole (record { value = len; next = start }) ≡ field_at 2 s at) where
    pub placed : (start ≡ at + 2) × (start ≤ length s) × (len ≡ le 2 s at)
    placed = let f = field_ok 0 2 s at (ap (or_cut 0 at) (sym e)) in (f.0, omega (arith, f.0, f.1), f.2)

    pub none_past : length s < start + len → NoneNamed rules s at
    none_past h = λ t k. absurd (omega (arith, (text_place s at k).2, placed.0, placed.2))

    pub none_known : rule_named rules (bytes_at s start len) ≡ unknown → NoneNamed rules s at
    none_known h = λ t k.
        let p = text_place s at k in
        let x : t.start ≡ start = omega (arith, p.0, placed.0) in
        let y : t.len ≡ len = omega (arith, p.1, placed.2) in
        rw (x, y) h
