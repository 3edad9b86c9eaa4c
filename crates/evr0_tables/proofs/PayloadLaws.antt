-- The tables of a payload: the answer goes step by step over what the code keeps of the head and of each table; and what the lent tables then hold.
use Prim.Native.Nat.{ℕ, ◌+◌, ◌-◌, ◌≤◌}
use mathlib.Core.Path.{◌≡◌, refl, sym, ap, ◌∙◌, subst}
use mathlib.Core.Bool.{Bool, true, false, ◌&&◌}
use mathlib.Core.List.{List, map, ◌++◌}
use native.Mathlib.Omega.{arith}
use borrow.Author.Tests.{leb-true}
use lib.Dec.{eqb, leb}
use lib.ListN.{length, take, length-map, length-take}
use lib.Seq.{length-take-le}
use Rattle.std.proofs.lemmas.List.{take-append-le}
use Rattle.local_format.specs.Refusal.{Refusal}
use Rattle.local_format.specs.Out.{Out, ok, refused, check, ◌>>=◌, ◌>>◌}
use Rattle.local_format.proofs.OutLaws.{on_ok, bind_ok, then_ok, checked_ok, check_ok, ok_same, never}
use Rattle.lent_table.specs.Lent.{lent, laid, Front}
use Rattle.lent_table.proofs.Laws.{front_lent}
use Rattle.derivation.specs.Rule.{Rule}
use Rattle.derivation.proofs.Tests.{both}
use Rattle.evr0_section.specs.Rows.{Row, Rows, rows, starts_of}
use Rattle.evr0_section.specs.Head.{Counts, Head, Room, listed, count_limits, within_limits, sizes, has_room, head_of, check_counts, checked_head}
use Rattle.evr0_section.specs.Head.{span_width, witness_size, witness_memory}
use Rattle.evr0_section.specs.Proposition.{Proposition, Before, first, proposition_row}
use Rattle.evr0_section.specs.Proof.{Settled, Unowned, none_owned, proof_row}
use Rattle.evr0_section.specs.Witness.{WitnessRecord, witness_row, parent_row}
use Rattle.evr0_section.specs.Section.{Rest, Four, Tables, rest_after, tables_after, whole, tables_of}
use Rattle.evr0_section.proofs.Inside.{Inside}
use Rattle.evr0_section.proofs.RowsLaws.{trace, trace_length}
use Rattle.evr0_section.proofs.SectionWithin.{rows_end, head_end}
use Rattle.evr0_section.proofs.CheckedTables.{FourSteps, four_steps}
use Rattle.evr0_head.specs.Checks.{Limited}
use Rattle.evr0_head.proofs.HeadLaws.{limited}
use Rattle.evr0_tables.specs.LentTables.{Lent, room_of}
use Rattle.evr0_tables.specs.LentMaps.{Cleared}
use Rattle.evr0_tables.specs.Maps.{next_in, asked, starts_in, Owned, owned_in}
use Rattle.evr0_tables.specs.PayloadMaps.{Payload, under, parents_in, payload_in, Begins, Reads}

-- ---- A table by what is kept of it
module _ {A S : Type 0} (row : S → List ℕ → Out (Row A S))
    (inside : (q : List ℕ) (u : S) → Inside q (row u q)) (p : List ℕ) (n : ℕ) (s : S) (at : ℕ) (h : at ≤ length p) where
  -- the place after it lies in the payload
  pub next_within : {k : ℕ} → next_in (rows row n s p at) ≡ ok k → k ≤ length p
  next_within e =
      let a = bind_ok (rows row n s p at) _ e in
      let b = rows_end row inside p n s at h a.1 in
      omega (arith, ok_same a.2)

-- the same of the proofs
pub owned_next : (x : Out (Rows Settled Unowned)) {o : Owned} → owned_in x ≡ ok o → next_in x ≡ ok o.next
owned_next (ok t) e = ap (λ (o : Owned). ok o.next) (ok_same e)
owned_next (refused r) e = absurd (never e)

-- the propositions, as many as the part of a table that is lent for their starts
module _ (p : List ℕ) (at : ℕ) (table : List ℕ) (n : ℕ) (h : n ≤ length table) where
  part : length (take n table) ≡ n
  part = length-take-le n table h

  pub next_of_part : {y : Out ℕ} → y ≡ next_in (rows proposition_row (length (take n table)) first p at) → y ≡ next_in (rows proposition_row n first p at)
  next_of_part e = rw part at e

  pub front_of_part : (starts rest : List ℕ) → Front (starts_in (rows proposition_row (length (take n table)) first p at)) starts
      → Front (starts_in (rows proposition_row n first p at)) (starts ++ rest)
  front_of_part starts rest f = front_on (starts_in (rows proposition_row n first p at)) (rw part at f)
    where
      front_on : (xs : List ℕ) → Front xs starts → Front xs (starts ++ rest)
      front_on xs e =
          let m : length (take (length xs) starts) ≡ length xs = ap length e in
          take-append-le (length xs) starts rest (omega (arith, m, length-take (length xs) starts)) ∙ e

-- ---- The answer, step by step
module _ (width : ℕ) (counts : Counts) (p : List ℕ) (at : ℕ) where
  abbrev ends : ℕ → ℕ → Out ℕ
  ends w e = check (eqb e (length p)) 24 e >> ok w

  pub rest_kept : parents_in (rest_after width counts p at)
      ≡ (next_in (rows (witness_row width counts) counts.witnesses 0 p at) >>= λ w. next_in (rows parent_row counts.parents tt p w) >>= λ e. ends w e)
  unfolding rest_after
  rest_kept = by_witnesses (rows (witness_row width counts) counts.witnesses 0 p at)
    where
      by_end : (w : Rows WitnessRecord ℕ) (q : Rows ℕ (Unit {0})) (t : Bool)
          → parents_in (check t 24 q.next >> ok (record { witnesses = w; parents = q })) ≡ (check t 24 q.next >> ok w.next)
      by_end w q true = refl
      by_end w q false = refl

      by_parents : (w : Rows WitnessRecord ℕ) (x : Out (Rows ℕ (Unit {0})))
          → parents_in (x >>= λ q. check (eqb q.next (length p)) 24 q.next >> ok (record { witnesses = w; parents = q }))
          ≡ (next_in x >>= λ e. ends w.next e)
      by_parents w (ok q) = by_end w q (eqb q.next (length p))
      by_parents w (refused r) = refl

      by_witnesses : (x : Out (Rows WitnessRecord ℕ))
          → parents_in (x >>= λ w. rows parent_row counts.parents tt p w.next >>= λ q. check (eqb q.next (length p)) 24 q.next
          >> ok (record { witnesses = w; parents = q }))
          ≡ (next_in x >>= λ w. next_in (rows parent_row counts.parents tt p w) >>= λ e. ends w e)
      by_witnesses (ok w) = by_parents w (rows parent_row counts.parents tt p w.next)
      by_witnesses (refused r) = refl

-- ---- What a checked head says of the counts

pub record Ready (room : Room) (p : List ℕ) (h : Head) : Type 0 where
  pub propositions : h.counts.propositions ≤ room.propositions
  pub proofs : h.counts.proofs ≤ room.proofs
  pub depths : h.counts.proofs ≤ room.depths
  pub parents : h.counts.parents ≤ 262144
  pub within : h.next ≤ length p

counts_ready : (room : Room) (p : List ℕ) (g : Head) → head_of p ≡ ok g → check_counts room p g ≡ ok tt → Ready room p g
unfolding check_counts has_room
counts_ready room p g f k =
    let a = then_ok (within_limits (listed g.counts) count_limits g.counts_at) _ k in
    let l : Limited g.counts = limited g.counts g.counts_at a.1 in
    let b = checked_ok (leb (sizes g.counts 15 35 (witness_size (span_width g.schema)) 4) (length p - g.next)) 13 g.next _ a.2 in
    let c = checked_ok (leb (length p + sizes g.counts 40 64 (witness_memory g.schema) 4) 16777216) 14 g.next _ b.1 in
    let d = checked_ok (leb (length p + sizes g.counts 1 1 1 1) 8388608) 15 g.next _ c.1 in
    let r = both _ _ (check_ok _ 61 g.next d.1) in
    let s = both _ _ r.1 in
    record {
      propositions = leb-true _ _ r.0;
      proofs = leb-true _ _ s.0;
      depths = leb-true _ _ s.1;
      parents = l.parents;
      within = (head_end p f).0;
    }

pub ready : (room : Room) (p : List ℕ) {h : Head} → ok h ≡ checked_head room p → Ready room p h
unfolding checked_head
ready room p e =
    let a = bind_ok (head_of p) _ (sym e) in
    let b = then_ok (check_counts room p a.0) _ a.2 in
    subst (Ready room p) (ok_same b.2) (counts_ready room p a.0 a.1 b.1)

-- ---- Refused payloads
module _ {x : Out Tables} {q : Refusal} (e : payload_in x ≡ refused q) where
  none : x ≡ refused q
  none = go x e
    where
      go : (y : Out Tables) → payload_in y ≡ refused q → y ≡ refused q
      go (ok t) h = absurd (never (sym h))
      go (refused r) h = cc

  pub unread : {given : Out Payload} → given ≡ refused q → (before after : Lent) → Begins x before after given
  unread g before after =
      record { answer = g ∙ sym e; propositions = rw none; proofs = rw none; polarities = λ t k. absurd (never (sym none ∙ k)) }

-- a refused payload leaves zeros
pub cleared : {x : Out Tables} {before middle after : Lent} {q : Refusal} → Begins x before middle (refused q) → room_of middle ≡ room_of before
    → Cleared middle after → Reads x before after (refused q)
cleared {x} {before} {middle} {after} {q} b l c =
    let n = none (sym b.answer) in
    record {
      answer = b.answer;
      propositions = c.propositions ∙ rw (n, ap (λ (r : Room). r.propositions) l);
      proofs = c.proofs ∙ rw (n, ap (λ (r : Room). r.proofs) l);
      polarities = c.depths ∙ rw (n, ap (λ (r : Room). r.depths) l);
    }

-- ---- The tables after a head, step by step
module _ (rules : List Rule) (width : ℕ) (counts : Counts) (p : List ℕ) (at : ℕ) (h : Head) where
  abbrev x : Out Tables
  x = under h (tables_after rules width counts p at)

  abbrev owned : Unowned → Bool
  owned u = eqb u.witness counts.witnesses && eqb u.parent counts.parents

  abbrev rest : ℕ → Out Rest
  rest place = rest_after width counts p place

  abbrev after_proofs : Owned → Out Payload
  after_proofs o = check (owned o.unowned) 22 o.next >> (parents_in (rest o.next) >>= λ q. ok (record {
    head = h;
    witnesses_at = o.next;
    parents_at = q;
  }))

  abbrev four : Rows Proposition Before → Rows Settled Unowned → Out Four
  four a b = rest b.next >>= λ r. ok (record { propositions = a; proofs = b; rest = r })

  pub payload_kept : payload_in x
      ≡ (next_in (rows proposition_row counts.propositions first p at) >>= λ n. owned_in (rows (proof_row rules counts) counts.proofs none_owned p n)
      >>= λ o. after_proofs o)
  unfolding tables_after
  payload_kept = by_propositions (rows proposition_row counts.propositions first p at)
    where
      by_rest : (a : Rows Proposition Before) (b : Rows Settled Unowned) (y : Out Rest)
          → payload_in ((y >>= λ r. ok (record { propositions = a; proofs = b; rest = r })) >>= λ f. ok (whole h f))
          ≡ (parents_in y >>= λ q. ok (record { head = h; witnesses_at = b.next; parents_at = q }))
      by_rest a b (ok r) = refl
      by_rest a b (refused r) = refl

      by_owned : (a : Rows Proposition Before) (b : Rows Settled Unowned) (t : Bool)
          → payload_in ((check t 22 b.next >> four a b) >>= λ f. ok (whole h f))
          ≡ (check t 22 b.next >> (parents_in (rest b.next) >>= λ q. ok (record { head = h; witnesses_at = b.next; parents_at = q })))
      by_owned a b true = by_rest a b (rest b.next)
      by_owned a b false = refl

      by_proofs : (a : Rows Proposition Before) (y : Out (Rows Settled Unowned))
          → payload_in ((y >>= λ b. check (owned b.state) 22 b.next >> four a b) >>= λ f. ok (whole h f)) ≡ (owned_in y >>= λ o. after_proofs o)
      by_proofs a (ok b) = by_owned a b (owned b.state)
      by_proofs a (refused r) = refl

      by_propositions : (y : Out (Rows Proposition Before))
          → payload_in ((y >>= λ a. rows (proof_row rules counts) counts.proofs none_owned p a.next >>= λ b. check (owned b.state) 22 b.next
          >> four a b) >>= λ f. ok (whole h f))
          ≡ (next_in y >>= λ n. owned_in (rows (proof_row rules counts) counts.proofs none_owned p n) >>= λ o. after_proofs o)
      by_propositions (ok a) = by_proofs a (rows (proof_row rules counts) counts.proofs none_owned p a.next)
      by_propositions (refused r) = refl

  -- ---- What the lent tables hold
  read_four : {t : Tables} → x ≡ ok t → (f : Four) × (x ≡ ok (whole h f)) × FourSteps rules width counts p at f
  read_four {t} e =
      let a = bind_ok (tables_after rules width counts p at) _ e in
      (a.0, on_ok (λ f. ok (whole h f)) a.1, four_steps rules width counts p at a.0 a.1)

  -- begun by the propositions and the proofs that were read
  pub all_begun : {g : Payload} {n : ℕ} {before after : Lent} → payload_in x ≡ ok g
      → ok n ≡ next_in (rows proposition_row counts.propositions first p at)
      → Front (starts_in (rows proposition_row counts.propositions first p at)) after.propositions
      → Front (starts_in (rows (proof_row rules counts) counts.proofs none_owned p n)) after.proofs
      → ((t : Rows Settled Unowned) → rows (proof_row rules counts) counts.proofs none_owned p n ≡ ok t
      → after.depths ≡ laid (map asked t.entries) before.depths)
      → Begins x before after (ok g)
  all_begun {g} {n} {before} {after} e m k l o =
      let a = bind_ok x _ e in
      let (f, is, steps) = read_four a.1 in
      let next : n ≡ f.propositions.next = ok_same (m ∙ ap next_in steps.propositions) in
      let l' : Front (starts_in (rows (proof_row rules counts) counts.proofs none_owned p f.propositions.next)) after.proofs = rw next at l in
      record {
        answer = sym e;
        propositions = rw is (rw steps.propositions at k);
        proofs = rw is (rw steps.proofs at l');
        polarities = λ t y. rw (← ok_same (sym is ∙ y)) (o f.proofs (rw next steps.proofs));
      }

  -- cleared past what was read
  pub cleared_past : {g : Payload} {before middle after : Lent} → Begins x before middle (ok g) → room_of middle ≡ room_of before
      → after.propositions ≡ lent (length middle.propositions) (take counts.propositions middle.propositions)
      → after.proofs ≡ lent (length middle.proofs) (take counts.proofs middle.proofs) → after.depths ≡ middle.depths → Reads x before after (ok g)
  cleared_past {g} {before} {middle} {after} b l ep eq ek =
      let a = bind_ok x _ (sym b.answer) in
      let (f, is, steps) = read_four a.1 in
      let np : length (starts_of f.propositions.entries) ≡ counts.propositions =
      length-map f.propositions.entries _ ∙ trace_length proposition_row p (trace proposition_row p _ _ _ f.propositions steps.propositions) in
      let nq : length (starts_of f.proofs.entries) ≡ counts.proofs =
      length-map f.proofs.entries _
      ∙ trace_length (proof_row rules counts) p (trace (proof_row rules counts) p _ _ _ f.proofs steps.proofs) in
      record {
        answer = b.answer;
        propositions = rw is (ep ∙ front_lent _ _ middle.propositions _ (ap (λ (r : Room). r.propositions) l) np (rw is at b.propositions));
        proofs = rw is (eq ∙ front_lent _ _ middle.proofs _ (ap (λ (r : Room). r.proofs) l) nq (rw is at b.proofs));
        polarities = rw is (ek ∙ b.polarities (whole h f) is);
      }

-- ---- A payload, by its head
module _ (rules : List Rule) (room : Room) (p : List ℕ) where
  pub no_head : {q : Refusal} {before after : Lent} → refused q ≡ checked_head room p → Cleared before after
      → Reads (tables_of rules room p) before after (refused q)
  unfolding tables_of
  no_head e c = rw (← e) (record { answer = refl; propositions = c.propositions; proofs = c.proofs; polarities = c.depths })

  pub by_head : {h : Head} → ok h ≡ checked_head room p → under h (tables_after rules (span_width h.schema) h.counts p h.next) ≡ tables_of rules room p
  unfolding tables_of
  by_head e = rw (← e)

  -- ---- A payload that was read
  pub room_there : {t : Tables} → tables_of rules room p ≡ ok t → Ready room p t.head
  unfolding tables_of
  room_there e =
      let a = bind_ok (checked_head room p) _ e in
      let b = bind_ok (tables_after rules (span_width a.0.schema) a.0.counts p a.0.next) _ a.2 in
      subst (λ (t : Tables). Ready room p t.head) (ok_same b.2) (ready room p (sym a.1))
