-- What is read off the front of some bytes is read all the same where more bytes follow: by one law for each kind of step, applied by search.
use Prim.Native.Nat.{ℕ, ◌+◌, ◌≤◌}
use mathlib.Core.Path.{◌≡◌, refl, sym, ap, ◌∙◌}
use mathlib.Core.Bool.{Bool, true, false}
use mathlib.Core.List.{List, ◌++◌}
use native.Mathlib.Omega.{arith}
use lib.ListN.{length, take, drop, length-drop}
use lib.Seq.{take_at, take-append-le, drop-append-le}
use Rattle.local_format.specs.Out.{Out, ok, refused, check, ◌>>=◌, ◌>>◌}
use Rattle.local_format.specs.Field.{Got, field_at, or_cut, field}
use Rattle.utf8.specs.Utf8.{decode}
use Rattle.local_format.specs.Text.{or_ill, bytes_at, text_at}
use Rattle.local_format.proofs.OutLaws.{never, bind_ok, on_ok}
use Rattle.local_format.proofs.FieldLaws.{field_ok, field_take}
use Rattle.derivation.specs.Rule.{Rule}
use Rattle.evr0_section.specs.Head.{Counts}
use Rattle.evr0_section.specs.Proof.{ProofRecord, Unowned, zeros_at, proof_of, check_proof, proof_row}
use Rattle.evr0_section.specs.Witness.{parent_row}

bytes_front : (s t : List ℕ) (at len : ℕ) → at + len ≤ length s → bytes_at (s ++ t) at len ≡ bytes_at s at len
bytes_front s t at len h =
    let l : len ≤ length (drop at s) = simp length-drop (omega arith) in
    ap (take len) (drop-append-le at s t (omega arith)) ∙ take-append-le len (drop at s) t l

-- what x answers y answers too
pub record Follows {A : Type 0} (x y : Out A) : Type 0 where
  pub same : {a : A} → x ≡ ok a → y ≡ ok a

module _ {A : Type 0} where
  itself : (x : Out A) → Follows x x
  itself x = record { same = λ e. e }

  on_check : (t : Bool) (n at : ℕ) (x y : Out A) → Follows x y → Follows (check t n at >> x) (check t n at >> y)
  on_check true n at x y h = h
  on_check false n at x y h = record { same = λ e. absurd (never e) }

  on_bind : {B C : Type 0} (x y : Out B) (f g : B → Out C) (h k : C → Out A) → Follows (x >>= λ b. f b >>= h) (y >>= λ b. g b >>= k)
      → Follows ((x >>= f) >>= h) ((y >>= g) >>= k)
  on_bind (ok a) (ok b) f g h k l = l
  on_bind (ok a) (refused r) f g h k l = l
  on_bind (refused q) (ok b) f g h k l = l
  on_bind (refused q) (refused r) f g h k l = l

  on_then : {B C : Type 0} (x : Out B) (y z : Out C) (h k : C → Out A) → Follows (x >> (y >>= h)) (x >> (z >>= k)) → Follows ((x >> y) >>= h) ((x >> z) >>= k)
  on_then (ok b) y z h k l = l
  on_then (refused r) y z h k l = l

  module _ (s t : List ℕ) where
    on_field : (n width at : ℕ) (f g : Got → Out A) → ((x : Got) → at + width ≤ length s → Follows (f x) (g x))
        → Follows (field n width s at >>= f) (field n width (s ++ t) at >>= g)
    on_field n width at f g h =
        record {
          same = λ e.
              let a = bind_ok (field n width s at) f e in
              let l = (field_ok n width s at a.1).1 in
              let whole : take (length s) (s ++ t) ≡ s = take_at s t (length s) refl in
              let there : field_at width (s ++ t) at ≡ field_at width s at =
              sym (field_take width (s ++ t) (length s) at l) ∙ ap (λ (s : List ℕ). field_at width s at) whole in
              on_ok g (ap (or_cut n at) there ∙ a.1) ∙ (h a.0 l).same a.2;
        }

    on_bytes : {B : Type 0} (x : List ℕ → Out B) (at len : ℕ) (f g : B → Out A) → at + len ≤ length s → ((b : B) → Follows (f b) (g b))
        → Follows (x (bytes_at s at len) >>= f) (x (bytes_at (s ++ t) at len) >>= g)
    on_bytes x at len f g l h =
        record {
          same = λ e.
              let a = bind_ok (x (bytes_at s at len)) f e in
              on_ok g (ap x (bytes_front s t at len l) ∙ a.1) ∙ (h a.0).same a.2;
        }

    on_text : (n at start len : ℕ) (f g : List ℕ → Out A) → start + len ≤ length s → ((cs : List ℕ) → Follows (f cs) (g cs))
        → Follows (or_ill n at (decode (bytes_at s start len)) >>= f) (or_ill n at (decode (bytes_at (s ++ t) start len)) >>= g)
    on_text n at start len f g l h = on_bytes (λ b. or_ill n at (decode b)) start len f g l h

    on_rule : (rules : List Rule) (counts : Counts) (u : Unowned) (start len : ℕ) (r : ProofRecord) (f g : Rule → Out A) → start + len ≤ length s
        → ((rule : Rule) → Follows (f rule) (g rule))
        → Follows (check_proof rules counts u (bytes_at s start len) r >>= f) (check_proof rules counts u (bytes_at (s ++ t) start len) r >>= g)
    on_rule rules counts u start len r f g l h = on_bytes (λ b. check_proof rules counts u b r) start len f g l h

ruleset steps = (itself, on_check, on_bind, on_then, on_field, on_text, on_rule)

module _ (s t : List ℕ) where
  pub proof_row_front : (rules : List Rule) (counts : Counts) (u : Unowned) → Follows (proof_row rules counts u s) (proof_row rules counts u (s ++ t))
  unfolding proof_row proof_of text_at zeros_at
  proof_row_front rules counts u = search steps depth 60 fits 4000

  pub parent_front : (u : Unit {0}) → Follows (parent_row u s) (parent_row u (s ++ t))
  unfolding parent_row
  parent_front u = search steps
