-- What the decoder's answer says of the section that it is the answer for.
use Prim.Native.Nat.{ℕ}
use mathlib.Core.Path.{◌≡◌, refl, sym, ap, ◌∙◌}
use Rattle.local_format.specs.Refusal.{Refusal}
use Rattle.local_format.specs.Out.{Out, ok, refused}
use Rattle.local_format.proofs.OutLaws.{never, ok_same, refused_same}
use Rattle.evr0_section.specs.Section.{Section}
use Rattle.evr0.specs.Answer.{Accepted, Answer, answer_of}

-- it is an accepted section, which ends at the answer's cursor and has the answer's counts and schema
pub record Answered (x : Out Section) (cursor : ℕ) (a : Accepted) : Type 0 where
  pub section : Section
  pub is : x ≡ ok section
  pub ends : section.cursor ≡ cursor
  pub counted : section.tables.head.counts ≡ a.counts
  pub schema_is : section.tables.head.schema ≡ a.schema

pub answered_ok : (cursor : ℕ) (x : Out Section) {given : Answer} {a : Accepted} → given ≡ answer_of cursor x → given.outcome ≡ ok a
    → Answered x given.cursor a
answered_ok cursor (ok d) e h =
    let k = ok_same (sym (ap (λ (g : Answer). g.outcome) e) ∙ h) in
    record {
      section = d;
      is = refl;
      ends = sym (ap (λ (g : Answer). g.cursor) e);
      counted = ap (λ (a : Accepted). a.counts) k;
      schema_is = ap (λ (a : Accepted). a.schema) k;
    }
answered_ok cursor (refused r) e h = absurd (never (sym (ap (λ (g : Answer). g.outcome) e) ∙ h))

pub answered_refused : (cursor : ℕ) (x : Out Section) {given : Answer} {r : Refusal} → given ≡ answer_of cursor x → given.outcome ≡ refused r
    → x ≡ refused r
answered_refused cursor (ok d) e h = absurd (never (sym (sym (ap (λ (g : Answer). g.outcome) e) ∙ h)))
answered_refused cursor (refused q) e h = ap refused (refused_same (sym (ap (λ (g : Answer). g.outcome) e) ∙ h))
