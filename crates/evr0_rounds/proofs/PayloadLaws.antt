-- The rounds of a payload from its tables and what the lent tables hold: one law for each way that they end.
use Prim.Native.Nat.{ℕ, ◌+◌, ◌≤◌, ◌<◌}
use mathlib.Core.Path.{◌≡◌, refl, sym, ap, ap₂, ◌∙◌}
use mathlib.Core.List.{List}
use native.Mathlib.Omega.{arith}
use lib.ListN.{length, take}
use Rattle.local_format.specs.Refusal.{Refusal}
use Rattle.local_format.specs.Out.{Out, ok, refused, ◌>>=◌}
use Rattle.local_format.proofs.OutLaws.{never, bind_ok, ok_same}
use Rattle.local_format.proofs.Each.{Refuses, answers, answered, each_refused, weaker, under, on}
use Rattle.lent_table.specs.Lent.{lent}
use Rattle.derivation.specs.Rule.{Rule}
use Rattle.derivation.specs.Section.{proof_at, proof_total}
use Rattle.evr0_section.specs.Head.{Room, span_width, witness_size}
use Rattle.evr0_section.specs.Rows.{starts_of}
use Rattle.evr0_section.specs.Section.{Tables, Section, section_of, tables_of}
use Rattle.evr0_section.proofs.SectionWithin.{tables_refuse}
use Rattle.rounds.specs.Rounds.{rounds}
use Rattle.rounds.specs.ByRounds.{rounds_in}
use Rattle.rounds.proofs.Methods.{rounds_within}
use Rattle.evr0_tables.specs.PayloadMaps.{Payload, payload_in, Reads}
use Rattle.evr0_pass.specs.View.{proof_view, view}
use Rattle.evr0_pass.specs.Maps.{done_in}
use Rattle.evr0_pass.proofs.ViewLaws.{proof_total_lem, proof_at_lem}
use Rattle.evr0_pass.proofs.ViewOf.{layout_of, section_view, tables_there}
use Rattle.evr0.specs.Answer.{Lent, room_of, Filled}
use Rattle.evr0.proofs.CheckLaws.{t, are, same, viewed}
use Rattle.evr0_rounds.specs.Steps.{Fills, Passes}

tables_refused : (x : Out Tables) {q : Refusal} → payload_in x ≡ refused q → x ≡ refused q
tables_refused (ok t) e = absurd (never (sym e))
tables_refused (refused r) e = cc

rounds_refused : (x : Out (List ℕ)) {q : Refusal} → done_in x ≡ refused q → x ≡ refused q
rounds_refused (ok rs) e = absurd (never (sym e))
rounds_refused (refused r) e = cc

refusal_passes : {x : Out Section} {q : Refusal} → x ≡ refused q → {before after : Lent} → Filled (refused q) before after → Passes x before after (refused q)
refusal_passes e none = rw e (record { answer = refl; tables = none })

module _ (rules : List Rule) (before : Lent) (p : List ℕ) where
  abbrev read : Out Tables
  read = tables_of rules (room_of before) p

  -- refused tables
  pub not_read : {after : Lent} {q : Refusal} → Reads read before after (refused q) → (end : ℕ)
      → Passes (rounds_in rules (room_of before) p end) before after (refused q)
  unfolding rounds_in
  not_read {q = q} r end =
      let x = tables_refused read (sym r.answer) in
      let none : rounds_in rules (room_of before) p end ≡ refused q = rw x in
      refusal_passes none (record { propositions = r.propositions ∙ rw x; proofs = r.proofs ∙ rw x; depths = r.polarities ∙ rw x })

  -- tables that were read, with the rounds that are made of them
  module _ {g : Payload} {middle : Lent} (r : Reads read before middle (ok g)) {size : ℕ} (sized : size ≡ witness_size (span_width g.head.schema)) where
    abbrev made : Out (List ℕ)
    made =
        rounds g.parents_at
        (view rules p (take g.head.counts.proofs middle.proofs)
        (record { counts = g.head.counts; witness_size = size; witnesses_at = g.witnesses_at; parents_at = g.parents_at }))

    abbrev found : Tables
    found = t rules before p r

    made_is : rounds found.witnesses.next (section_of found) ≡ made
    made_is = ap₂ rounds (ap (λ (y : Payload). y.parents_at) (same rules before p r)) (sym (viewed rules before p r sized))

    section_is : (end : ℕ) → rounds_in rules (room_of before) p end ≡ (made >>= λ rs. ok (record { tables = found; depths = rs; cursor = end }))
    unfolding rounds_in
    section_is end = rw (are rules before p r, made_is)

    pub rounds_made : {after : Lent} {u : Unit {0}} → room_of middle ≡ room_of before → Fills made middle.depths after.depths (ok u)
        → after.propositions ≡ middle.propositions → after.proofs ≡ middle.proofs → (end : ℕ)
        → Passes (rounds_in rules (room_of before) p end) before after (ok g.head.counts.proofs)
    rounds_made n h ep eq end =
        let (rs, e, done) = bind_ok made _ (sym h.answer) in
        rw (section_is end, e)
        (record {
          answer = ap (λ (y : Payload). ok y.head.counts.proofs) (sym (same rules before p r));
          tables = record {
            propositions = ep ∙ r.propositions ∙ rw (are rules before p r);
            proofs = eq ∙ r.proofs ∙ rw (are rules before p r);
            depths = h.rounds rs e ∙ ap (λ (k : Room). lent k.depths rs) n;
          };
        })

    pub not_made : {after : Lent} {ds : List ℕ} {q : Refusal} → Fills made middle.depths ds (refused q) → Filled (refused q) before after → (end : ℕ)
        → Passes (rounds_in rules (room_of before) p end) before after (refused q)
    not_made {q = q} h none end =
        let e = rounds_refused made (sym h.answer) in
        let x : rounds_in rules (room_of before) p end ≡ refused q = section_is end ∙ rw e in
        refusal_passes x none

-- the cursor after an accepted section
pub cursor_after : (rules : List Rule) (room : Room) (p : List ℕ) (end : ℕ) {s : Section} → rounds_in rules room p end ≡ ok s → s.cursor ≡ end
unfolding rounds_in
cursor_after rules room p end e =
    let a = bind_ok (tables_of rules room p) _ e in
    let b = bind_ok (rounds a.0.witnesses.next (section_of a.0)) _ a.2 in
    ap (λ (x : Section). x.cursor) (sym (ok_same b.2))

-- ---- What is refused of a payload stands within it
module _ (rules : List Rule) (room : Room) (p : List ℕ) where
  module _ (t : Tables) (e : tables_of rules room p ≡ ok t) where
    owned : (i : ℕ) → i < proof_total (section_of t) → (proof_at (section_of t) i).first_parent + (proof_at (section_of t) i).parent_count
        ≤ t.head.counts.parents
    unfolding proof_view
    owned i l =
        let v = section_view rules room p t e in
        let starts : List ℕ = starts_of t.proofs.entries in
        let total : proof_total (section_of t) ≡ length starts = ap proof_total v ∙ proof_total_lem rules p starts (layout_of t) in
        let h : i < length starts = omega (arith, total) in
        rw (v, proof_at_lem rules p starts (layout_of t) i h) ((tables_there rules room p t e).proofs i h).parents

  payload_refuses : (end : ℕ) → Refuses (λ r. r.offset ≤ length p) (rounds_in rules room p end)
  unfolding rounds_in
  payload_refuses end =
      on (weaker (answered (tables_of rules room p) (tables_refuse rules p room)) (λ t h. h.0) (λ r h. h.1.offset)) λ t e.
      let there = (tables_there rules room p t e).parents in
      on (under (rounds_within t.witnesses.next (section_of t) t.head.counts.parents (owned t e)) (λ r w. omega arith)) λ rs u. answers tt

  pub rounds_in_payload : (end : ℕ) {r : Refusal} → rounds_in rules room p end ≡ refused r → r.offset ≤ length p
  rounds_in_payload end e = each_refused (payload_refuses end) e
