-- From the section of a payload to the section at a cursor, and to what the lent tables hold in the end.
use Prim.Native.Nat.{ℕ, ◌+◌, ◌-◌, ◌≤◌}
use mathlib.Core.Path.{◌≡◌, refl, sym, ap, ap₂, ◌∙◌, subst}
use mathlib.Core.List.{List}
use native.Mathlib.Omega.{arith}
use lib.ListN.{length, take, drop, length-take}
use Rattle.local_format.specs.Refusal.{Refusal}
use Rattle.local_format.specs.Out.{Out, ok, refused, moved, at_offset, held}
use Rattle.local_format.specs.Text.{bytes_at}
use Rattle.local_format.proofs.OutLaws.{never, ok_same, bind_ok}
use Rattle.derivation.specs.Rule.{Rule, four_rules}
use Rattle.evr0_section.specs.Head.{Head}
use Rattle.evr0_section.specs.Section.{Section, Frame, frame_at, section_at, decode_section}
use Rattle.evr0_section.proofs.Stages.{section_within}
use Rattle.evr0_section.proofs.SectionSteps.{frame_place}
use Rattle.evr0_section.proofs.Demand.{demand_3}
use Rattle.rule_table.specs.ByTable.{Given, four, rules_given}
use Rattle.rule_table.proofs.ByTable.{table_refused, decodes_by, holds_by}
use Rattle.evr0_tables.proofs.TableLaws.{held_sum}
use Rattle.evr0.specs.Answer.{Lent, lent_of, room_of, Answer, answer_of, Filled, Leaves, LeavesBy}
use Rattle.evr0.specs.Steps.{payload_in, section_by, head_in, Passes, Ends, EndsBy, answer_with}
use Rattle.evr0.proofs.AnswerLaws.{refusal_ends}
use Rattle.evr0.proofs.SectionLaws.{cursor_after}

-- ---- The payload as a part of the file

pub same_part : (s : List ℕ) (start len : ℕ) → take (start + len - start) (drop start s) ≡ bytes_at s start len
same_part s start len = let n : start + len - start ≡ len = omega arith in rw n

module _ (rules : List Rule) (s : List ℕ) (cursor : ℕ) (before after : Lent) (f : Frame) (e : frame_at s cursor ≡ ok f) where
  abbrev part : Out Section
  part = payload_in rules before (take (f.start + f.len - f.start) (drop f.start s)) (f.start + f.len)

  -- the section in the file
  placed : section_by rules before s cursor ≡ moved f.start part
  unfolding section_at
  placed = rw (e, same_part s f.start f.len)

  part_refused : {q : Refusal} → refused q ≡ head_in part → part ≡ refused q
  part_refused {q} k = go part k
    where
      go : (y : Out Section) → refused q ≡ head_in y → y ≡ refused q
      go (ok t) h = absurd (never h)
      go (refused r) h = cc

  -- a refusal of the payload is told by its place in the file
  pub payload_refused : {q : Refusal} {given : Answer} → Passes part before after (refused q) → length s ≤ 18446744073709551615
      → given ≡ answer_of cursor (refused (at_offset q (held f.start q.offset))) → Ends (section_by rules before s cursor) cursor before after given
  payload_refused {q} r l g =
      let x = part_refused r.answer in
      let within : f.start + f.len ≤ length s = (frame_place _ _ e).1 in
      let long : length (take (f.start + f.len - f.start) (drop f.start s)) ≤ f.len = simp length-take (omega arith) in
      let k : held f.start q.offset ≡ f.start + q.offset =
      held_sum f.start q.offset (omega (arith, section_within rules (room_of before) _ (f.start + f.len) x)) in
      let y : section_by rules before s cursor ≡ refused (at_offset q (held f.start q.offset)) = placed ∙ ap (moved f.start) x ∙ rw k in
      let t : Filled (refused q) before after = rw x at r.tables in
      refusal_ends y (record { propositions = t.propositions; proofs = t.proofs; depths = t.depths }) g

  pub payload_accepted : {h : Head} {given : Answer} → Passes part before after (ok h) → given ≡ answer_with (f.start + f.len) h
      → Ends (section_by rules before s cursor) cursor before after given
  payload_accepted {h} r g =
      let a = bind_ok part _ (sym r.answer) in
      let c : a.0.cursor ≡ f.start + f.len = cursor_after rules (room_of before) _ (f.start + f.len) a.1 in
      let y : section_by rules before s cursor ≡ ok a.0 = placed ∙ ap (moved f.start) a.1 in
      rw y (record {
        answer = g ∙ ap₂ answer_with (sym c) (sym (ok_same a.2));
        tables = subst (λ (x : Out Section). Filled x before after) a.1 r.tables;
      })

-- ---- By the rules of a call, and by the four

module _ {s : List ℕ} {cursor : ℕ} {before after : Lent} {given : Answer} where
  pub ends_by : (which : Given) {rules : List Rule} → rules_given which ≡ ok rules → Ends (section_by rules before s cursor) cursor before after given
      → EndsBy which s cursor before after given
  ends_by which {rules} e x =
      let k = decodes_by which (room_of before) s cursor rules e in
      record { answer = x.answer ∙ ap (answer_of cursor) (sym k); tables = rw k x.tables }

  pub not_by : (which : Given) {q : Refusal} → rules_given which ≡ refused q → given ≡ answer_of cursor (refused q) → Filled (refused q) before after
      → EndsBy which s cursor before after given
  not_by which {q} e x t =
      let k = table_refused which (room_of before) s cursor q e in
      record { answer = x ∙ ap (answer_of cursor) (sym k); tables = rw k t }

module _ {s : List ℕ} {cursor : ℕ} {before : Lent} {given : Answer} where
  -- the tables are what they are once the loan is over
  pub leaves_by : {ps qs ds : List ℕ} {which : Given} {after : Lent} → EndsBy which s cursor before after given
      → ps ≡ after.propositions → qs ≡ after.proofs → ds ≡ after.depths → LeavesBy which s cursor before (lent_of ps qs ds) given
  leaves_by {which} x e f h =
      record {
        answer = x.answer;
        tables = record { propositions = e ∙ x.tables.propositions; proofs = f ∙ x.tables.proofs; depths = h ∙ x.tables.depths };
        holds = holds_by which (room_of before) s cursor;
      }

  pub leaves : {after : Lent} → LeavesBy four s cursor before after given → Leaves s cursor before after given
  unfolding decode_section
  leaves x =
      let k = decodes_by four (room_of before) s cursor four_rules refl in
      record { answer = x.answer ∙ ap (answer_of cursor) k; tables = rw k at x.tables; demand3 = demand_3 _ _ _ }
