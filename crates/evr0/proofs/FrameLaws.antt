-- Laws of a section's frame, whose payload's length is tested against what is left, and of its opening.
use Prim.Native.Nat.{ℕ, ◌+◌, ◌-◌, ◌≤◌}
use mathlib.Core.Path.{◌≡◌, refl, sym, ap, ◌∙◌}
use mathlib.Core.Bool.{Bool, true, false}
use mathlib.Core.List.{List}
use native.Mathlib.Omega.{arith}
use native.Mathlib.Decide.{dec_le}
use lib.Dec.{leb}
use lib.ListN.{length}
use borrow.Author.Tests.{le-leb, lt-leb}
use Rattle.std.specs.Prelude.{cond}
use Rattle.local_format.specs.Refusal.{Refusal, refusal}
use Rattle.local_format.specs.Out.{Out, ok, refused, refuse, check, ◌>>◌}
use Rattle.local_format.specs.Field.{whole, cut, le, field_at, or_cut, field}
use Rattle.local_format.specs.Text.{bytes_at}
use Rattle.local_format.proofs.OutLaws.{never, refused_same}
use Rattle.evr0_section.specs.Head.{is_schema, head_of}
use Rattle.evr0_section.specs.Section.{Frame, frame_at, section_at}
use Rattle.evr0_head.proofs.HeadLaws.{checked_refused}
use Rattle.evr0.specs.Answer.{room_of}
use Rattle.evr0.specs.Steps.{section_by, Opens}
use Rattle.evr0.proofs.SectionLaws.{no_head}

-- ---- The payload

-- the test of its length against what is left
left_test : (start len n : ℕ) → start ≤ n → leb (start + len) n ≡ leb len (n - start)
left_test start len n h = go (dec_le (start + len) n)
  where
    go : Dec (start + len ≤ n) → leb (start + len) n ≡ leb len (n - start)
    go (yes l) = le-leb (start + len) n l ∙ sym (le-leb len (n - start) (omega arith))
    go (no l) = lt-leb (start + len) n (omega arith) ∙ sym (lt-leb len (n - start) (omega arith))

pub payload_tested : (s : List ℕ) (start len : ℕ) → start ≤ length s
    → field 4 len s start ≡ (check (leb len (length s - start)) 4 start >> ok (record { value = le len s start; next = start + len }))
unfolding field_at
payload_tested s start len h = rw (left_test start len (length s) h) (go (leb len (length s - start)))
  where
    go : (t : Bool) → or_cut 4 start (cond t (whole (record { value = le len s start; next = start + len })) cut)
        ≡ (check t 4 start >> ok (record { value = le len s start; next = start + len }))
    go true = refl
    go false = refl

-- what a check refused
pub check_refused : (t : Bool) (n at : ℕ) {r : Refusal} → refused r ≡ check t n at → (t ≡ false) × (r ≡ refusal n at)
check_refused true n at e = absurd (never e)
check_refused false n at e = (refl, refused_same e)

-- ---- The opening
module _ (s : List ℕ) (cursor : ℕ) where
  pub opens : {given : Out Frame} → given ≡ frame_at s cursor → Opens s cursor given
  unfolding section_at
  opens e = record { frame = λ f k. sym e ∙ k; refusal = λ q k rules tables. rw (sym e ∙ k) }

  -- a payload of another schema is refused by any rules and for any lent tables
  pub no_schema : (f : Frame) → frame_at s cursor ≡ ok f → (value next : ℕ)
      → field_at 2 (bytes_at s f.start f.len) 0 ≡ whole (record { value = value; next = next }) → is_schema value ≡ false
      → Opens s cursor (refuse 10 (f.start + next))
  unfolding section_at head_of
  no_schema f e value next k n =
      let p = bytes_at s f.start f.len in
      let head : head_of p ≡ refuse 10 next = rw (k, n) in
      record {
        frame = λ g h. absurd (never h);
        refusal = λ q h rules tables.
            let part = no_head rules (room_of tables) p (f.start + f.len) _ (checked_refused (room_of tables) p head) in
            let placed : section_by rules tables s cursor ≡ refuse 10 (f.start + next) = rw (e, part) in
            placed ∙ ap refused (refused_same h);
      }
