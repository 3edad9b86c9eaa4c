-- From the rounds of a payload to those of the section at a cursor, by the rules of a call, and to what the lent tables hold in the end.
use Prim.Native.Nat.{ℕ, ◌+◌, ◌-◌, ◌≤◌}
use mathlib.Core.Path.{◌≡◌, refl, sym, ap, ap₂, ◌∙◌, subst}
use mathlib.Core.List.{List}
use native.Mathlib.Omega.{arith}
use lib.ListN.{length, take, drop, length-take}
use Rattle.local_format.specs.Refusal.{Refusal}
use Rattle.local_format.specs.Out.{Out, ok, refused, moved, at_offset, held}
use Rattle.local_format.proofs.OutLaws.{never, ok_same, bind_ok, on_ok, on_refused}
use Rattle.derivation.specs.Rule.{Rule}
use Rattle.evr0_section.specs.Section.{Section, Frame, frame_at}
use Rattle.evr0_section.proofs.SectionSteps.{frame_place}
use Rattle.rule_table.specs.ByTable.{Given, rules_given}
use Rattle.rounds.specs.ByRounds.{rounds_in, rounds_at, rounds_by}
use Rattle.rounds.proofs.ByRounds.{methods_by}
use Rattle.evr0_tables.proofs.TableLaws.{held_sum}
use Rattle.evr0.specs.Answer.{Lent, lent_of, room_of, Filled}
use Rattle.evr0.proofs.DecodeLaws.{same_part}
use Rattle.evr0_rounds.specs.Answer.{Answer, answer_of, rounds_given, LeavesBy}
use Rattle.evr0_rounds.specs.Steps.{proofs_in, Passes, Marked, marked_in, Ends, answer_with}
use Rattle.evr0_rounds.proofs.PayloadLaws.{cursor_after, rounds_in_payload}

-- what is answered of the count and the cursor is what the definition answers of the section
answered : (cursor : ℕ) (x : Out Section) → answer_with cursor (marked_in x) ≡ answer_of cursor x
answered cursor (ok s) = refl
answered cursor (refused r) = refl

pub refusal_ends : {x : Out Section} {q : Refusal} → x ≡ refused q → {before after : Lent} → Filled (refused q) before after → Ends x before after (refused q)
refusal_ends e none = rw e (record { answer = refl; tables = none })

-- what was left of a payload, by what was answered
pub told_as : {x : Out Section} {before after : Lent} {g h : Out ℕ} → Passes x before after g → g ≡ h → Passes x before after h
told_as p e = rw e at p

-- ---- The section at a cursor

module _ (rules : List Rule) (s : List ℕ) (cursor : ℕ) (before after : Lent) where
  pub no_frame : {q : Refusal} → refused q ≡ frame_at s cursor → Filled (refused q) before after
      → Ends (rounds_at rules (room_of before) s cursor) before after (refused q)
  unfolding rounds_at
  no_frame {q} e none =
      let x : rounds_at rules (room_of before) s cursor ≡ refused q = rw (sym e) in
      refusal_ends x none

  module _ (f : Frame) (e : frame_at s cursor ≡ ok f) where
    abbrev part : Out Section
    part = rounds_in rules (room_of before) (take (f.start + f.len - f.start) (drop f.start s)) (f.start + f.len)

    -- the section in the file
    placed : rounds_at rules (room_of before) s cursor ≡ moved f.start part
    unfolding rounds_at
    placed = rw (e, same_part s f.start f.len)

    part_refused : {q : Refusal} → refused q ≡ proofs_in part → part ≡ refused q
    part_refused {q} k = go part k
      where
        go : (y : Out Section) → refused q ≡ proofs_in y → y ≡ refused q
        go (ok t) h = absurd (never h)
        go (refused r) h = cc

    -- a refusal of the payload is told by its place in the file
    pub payload_refused : {q : Refusal} → Passes part before after (refused q) → length s ≤ 18446744073709551615
        → Ends (rounds_at rules (room_of before) s cursor) before after (refused (at_offset q (held f.start q.offset)))
    payload_refused {q} r l =
        let x = part_refused r.answer in
        let within : f.start + f.len ≤ length s = (frame_place _ _ e).1 in
        let long : length (take (f.start + f.len - f.start) (drop f.start s)) ≤ f.len = simp length-take (omega arith) in
        let k : held f.start q.offset ≡ f.start + q.offset =
        held_sum f.start q.offset (omega (arith, rounds_in_payload rules (room_of before) _ (f.start + f.len) x)) in
        let y : rounds_at rules (room_of before) s cursor ≡ refused (at_offset q (held f.start q.offset)) = placed ∙ ap (moved f.start) x ∙ rw k in
        let t : Filled (refused q) before after = rw x at r.tables in
        refusal_ends y (record { propositions = t.propositions; proofs = t.proofs; depths = t.depths })

    pub payload_marked : {n : ℕ} → Passes part before after (ok n)
        → Ends (rounds_at rules (room_of before) s cursor) before after (ok (record { proofs = n; cursor = f.start + f.len }))
    payload_marked {n} r =
        let a = bind_ok part _ (sym r.answer) in
        let c : a.0.cursor ≡ f.start + f.len = cursor_after rules (room_of before) _ (f.start + f.len) a.1 in
        let y : rounds_at rules (room_of before) s cursor ≡ ok a.0 = placed ∙ ap (moved f.start) a.1 in
        rw y (record {
          answer = ap₂ (λ (k m : ℕ). ok (record { proofs = k; cursor = m })) (sym (ok_same a.2)) (sym c);
          tables = subst (λ (x : Out Section). Filled x before after) a.1 r.tables;
        })

-- ---- By the rules of a call

module _ {which : Given} {s : List ℕ} {cursor : ℕ} {before after : Lent} {given : Out Marked} where
  leaves : {x : Out Section} → rounds_given which before s cursor ≡ x → Ends x before after given
      → LeavesBy which s cursor before after (answer_with cursor given)
  leaves {x} d e =
      record {
        answer = ap (answer_with cursor) e.answer ∙ answered cursor x ∙ ap (answer_of cursor) (sym d);
        tables = rw d e.tables;
        methods = methods_by which (room_of before) s cursor;
      }

  pub leaves_by : {rules : List Rule} → rules_given which ≡ ok rules → Ends (rounds_at rules (room_of before) s cursor) before after given
      → LeavesBy which s cursor before after (answer_with cursor given)
  unfolding rounds_by
  leaves_by e x = leaves (on_ok _ e) x

  pub not_by : {q : Refusal} → rules_given which ≡ refused q → Ends (refused q) before after given
      → LeavesBy which s cursor before after (answer_with cursor given)
  unfolding rounds_by
  not_by e x = leaves (on_refused _ e) x

-- the tables that were lent, by what they are once the loan is over
pub leaves_in : {which : Given} {s : List ℕ} {cursor : ℕ} {before : Lent} {given : Answer} {ps qs ds ps' qs' ds' : List ℕ}
    → LeavesBy which s cursor before (lent_of ps qs ds) given → ps' ≡ ps → qs' ≡ qs → ds' ≡ ds → LeavesBy which s cursor before (lent_of ps' qs' ds') given
leaves_in l e f g = rw (e, f, g) l
