-- The tables of a payload that were read: what the last pass may rely on, and what its answer makes of the section.
use Prim.Native.Nat.{ℕ}
use mathlib.Core.Path.{◌≡◌, refl, sym, ap, ap₂, ◌∙◌, subst}
use mathlib.Core.List.{List, [], map}
use lib.ListN.{length, take}
use lib.Seq.{take_at}
use Rattle.local_format.specs.Refusal.{Refusal}
use Rattle.local_format.specs.Out.{Out, ok, refused}
use Rattle.local_format.proofs.OutLaws.{bind_ok, ok_same, never}
use Rattle.lent_table.specs.Lent.{lent, Front}
use Rattle.derivation.specs.Rule.{Rule}
use Rattle.derivation.specs.Pass.{depths}
use Rattle.evr0_section.specs.Head.{Counts, Room, span_width, witness_size}
use Rattle.evr0_section.specs.Rows.{starts_of}
use Rattle.evr0_section.specs.Section.{Tables, section_of, tables_of}
use Rattle.evr0_tables.specs.LentTables.{Lent, room_of}
use Rattle.evr0_tables.specs.Maps.{asked}
use Rattle.evr0_tables.specs.PayloadMaps.{Payload, payload_in, proof_starts_in, polarities_left, Reads}
use Rattle.evr0_tables.proofs.PayloadLaws.{Ready, room_there}
use Rattle.evr0_pass.specs.View.{Layout, TablesThere, PolaritiesThere, view}
use Rattle.evr0_pass.specs.Maps.{done_in, depths_in, Derives}
use Rattle.evr0_pass.proofs.ViewOf.{layout_of, section_view, tables_there, polarities_there, starts_total}
use Rattle.evr0.specs.Steps as steps
use Rattle.evr0.specs.Steps.{Passes}
use Rattle.evr0.proofs.AnswerLaws.{refusal_passes}
use Rattle.evr0.proofs.SectionLaws.{no_tables, no_depths, accepted}

pass_refused : (x : Out (List ℕ)) {q : Refusal} → done_in x ≡ refused q → x ≡ refused q
pass_refused (ok ds) e = absurd (never (sym e))
pass_refused (refused r) e = cc

tables_refused : (x : Out Tables) {q : Refusal} → payload_in x ≡ refused q → x ≡ refused q
tables_refused (ok t) e = absurd (never (sym e))
tables_refused (refused r) e = cc

pub same_parts : {c d : Counts} {m n w v q k : ℕ} → c ≡ d → m ≡ n → w ≡ v → q ≡ k
    → ◌≡◌ {A = Layout} (record { counts = c; witness_size = m; witnesses_at = w; parents_at = q })
    (record { counts = d; witness_size = n; witnesses_at = v; parents_at = k })
same_parts a b c d = rw (a, b, c, d)

module _ (rules : List Rule) (before : Lent) (p : List ℕ) where
  abbrev read : Out Tables
  read = tables_of rules (room_of before) p

  -- ---- Refused tables
  pub not_read : {after : Lent} {q : Refusal} → Reads read before after (refused q) → (end : ℕ)
      → Passes (steps.payload_in rules before p end) before after (refused q)
  not_read r end =
      let x = tables_refused read (sym r.answer) in
      refusal_passes (no_tables rules (room_of before) p end x)
      (record { propositions = r.propositions ∙ rw x; proofs = r.proofs ∙ rw x; depths = r.polarities ∙ rw x })

  -- ---- Tables that were read, with what the last pass makes of them
  module _ {g : Payload} {middle : Lent} (r : Reads read before middle (ok g)) where
    pub t : Tables
    t = (bind_ok read _ (sym r.answer)).0

    pub are : read ≡ ok t
    unfolding t
    are = (bind_ok read _ (sym r.answer)).1

    pub same : ◌≡◌ {A = Payload} (record { head = t.head; witnesses_at = t.proofs.next; parents_at = t.witnesses.next }) g
    unfolding t
    same = ok_same (bind_ok read _ (sym r.answer)).2

    pub fits : Ready (room_of before) p g.head
    fits = subst (λ (y : Payload). Ready (room_of before) p y.head) same (room_there rules (room_of before) p are)

    total : length (starts_of t.proofs.entries) ≡ g.head.counts.proofs
    total = starts_total rules (room_of before) p t are ∙ ap (λ (y : Payload). y.head.counts.proofs) same

    -- the starts that the lent table holds
    starts_are : take g.head.counts.proofs middle.proofs ≡ starts_of t.proofs.entries
    starts_are = ap (take g.head.counts.proofs) (r.proofs ∙ ap (λ (x : Out Tables). lent (length before.proofs) (proof_starts_in x)) are)
        ∙ take_at (starts_of t.proofs.entries) _ g.head.counts.proofs total

    module _ {size : ℕ} (sized : size ≡ witness_size (span_width g.head.schema)) where
      abbrev layout : Layout
      layout = record { counts = g.head.counts; witness_size = size; witnesses_at = g.witnesses_at; parents_at = g.parents_at }

      same_layout : layout_of t ≡ layout
      same_layout =
          same_parts (ap (λ (y : Payload). y.head.counts) same) (ap (λ (y : Payload). witness_size (span_width y.head.schema)) same ∙ sym sized)
          (ap (λ (y : Payload). y.witnesses_at) same) (ap (λ (y : Payload). y.parents_at) same)

      pub may_derive : TablesThere p (take g.head.counts.proofs middle.proofs) layout
      may_derive = rw (starts_are, ← same_layout) (tables_there rules (room_of before) p t are)

      pub polarities : PolaritiesThere rules p (take g.head.counts.proofs middle.proofs) middle.depths
      polarities =
          let at_front : Front (map asked t.proofs.entries) middle.depths =
          ap (take (length (map asked t.proofs.entries))) (r.polarities ∙ ap (λ (x : Out Tables). polarities_left x before.depths) are)
          ∙ take_at (map asked t.proofs.entries) _ _ refl
          in
          rw starts_are (polarities_there rules (room_of before) p t are middle.depths at_front)

      pub viewed : view rules p (take g.head.counts.proofs middle.proofs) layout ≡ section_of t
      viewed = rw (starts_are, ← same_layout) (sym (section_view rules (room_of before) p t are))

      abbrev pass : Out (List ℕ)
      pass = depths g.parents_at (view rules p (take g.head.counts.proofs middle.proofs) layout)

      pass_is : depths t.witnesses.next (section_of t) ≡ pass
      pass_is = ap₂ depths (ap (λ (y : Payload). y.parents_at) same) (sym viewed)

      pub derived : {after : Lent} {u : Unit {0}} → room_of middle ≡ room_of before → Derives pass middle.depths after.depths (ok u)
          → after.propositions ≡ middle.propositions → after.proofs ≡ middle.proofs → (end : ℕ)
          → Passes (steps.payload_in rules before p end) before after (ok g.head)
      derived l d ep eq end =
          let b = bind_ok pass _ (sym d.answer) in
          let x = accepted rules (room_of before) p end are (pass_is ∙ b.1) in
          rw x
          (record {
            answer = ap (λ (y : Payload). ok y.head) (sym same);
            tables = record {
              propositions = ep ∙ r.propositions ∙ rw are;
              proofs = eq ∙ r.proofs ∙ rw are;
              depths = d.depths ∙ ap₂ (λ (k : Room) (y : Out (List ℕ)). lent k.depths (depths_in y)) l b.1;
            };
          })

      pub not_derived : {after : Lent} {q : Refusal} → room_of middle ≡ room_of before → Derives pass middle.depths after.depths (refused q)
          → after.propositions ≡ lent (length middle.propositions) [] → after.proofs ≡ lent (length middle.proofs) []
          → (end : ℕ) → Passes (steps.payload_in rules before p end) before after (refused q)
      not_derived {q = q} l d ep eq end =
          let y = pass_refused pass (sym d.answer) in
          refusal_passes (no_depths rules (room_of before) p end are (pass_is ∙ y))
          (record {
            propositions = ep ∙ ap (λ (k : Room). lent k.propositions []) l;
            proofs = eq ∙ ap (λ (k : Room). lent k.proofs []) l;
            depths = d.depths ∙ ap₂ (λ (k : Room) (z : Out (List ℕ)). lent k.depths (depths_in z)) l y;
          })
